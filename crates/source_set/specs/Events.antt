-- The files of a source set up to the first event, where the store holds these files and nothing fails.
use Rattle.std.specs.Prelude.{◌≡◌, ℕ, ◌<◌, ◌≤◌, List, length, take, Option, None, Some, IsSomeAnd, slice_get}
use Rattle.std.specs.FinMap as map
use Rattle.ranked.specs.Entries.{Entry}
use Rattle.ranked.specs.First.{IsFirst}
use Rattle.wr_outside.specs.Files.{Files}
use Rattle.source_set.specs.Found.{Read, found, most_files, room}
use Rattle.source_set.specs.Phases.{HasTree, Faulty}

-- the next of the set's names, once these files are read
abbrev pub IsNext : List (List ℕ) → List Read → List ℕ → Type 0
IsNext words reads name = slice_get (found words reads) (length reads) ≡ Some name

-- the file comes next after the others, isn't one too many nor too long, and has a tree
pub record Follows (words : List (List ℕ)) (reads : List Read) (r : Read) : Type 0 where
  pub few : length reads < most_files
  pub next : IsNext words reads r.name
  pub short : length r.bytes ≤ room reads
  pub tree : HasTree r.bytes r.tree

-- these are the first files of the set, each of which follows those before it
pub record Begins (words : List (List ℕ)) (reads : List Read) : Type 0 where
  pub each : (k : ℕ) (r : Read) → slice_get reads k ≡ Some r → Follows words (take k reads) r

-- the store holds each of the files
pub record Holds (files : Files) (reads : List Read) : Type 0 where
  pub each : (k : ℕ) (r : Read) → slice_get reads k ≡ Some r → map.get files r.name ≡ Some r.bytes

-- what may stop a source set at a file
pub data Event : Type 0 where
  too_many : Event
  missing : Event
  too_long : Event
  refused : Entry → Event

-- the event of the file that comes next after these, by what is held under its name: the 257th file isn't asked for;
-- a file isn't held, has more bytes than it may, or is refused by its first fault
abbrev pub StopsAt : List Read → Option (List ℕ) → Event → Type 0
StopsAt reads content too_many = most_files ≤ length reads
StopsAt reads content missing = (length reads < most_files) × (content ≡ None)
StopsAt reads content too_long = (length reads < most_files) × IsSomeAnd content (λ bytes. room reads < length bytes)
StopsAt reads content (refused e) =
    (length reads < most_files) × IsSomeAnd content (λ bytes. (length bytes ≤ room reads) × IsFirst (Faulty (length reads) bytes) (Some e))

-- no file before the one of this name has an event
pub record Awaits (words : List (List ℕ)) (files : Files) (name : List ℕ) : Type 0 where
  pub reads : List Read
  pub begins : Begins words reads
  pub holds : Holds files reads
  pub few : length reads < most_files
  pub next : IsNext words reads name

-- the first event of the set stands at the file of this name
pub record FirstEvent (words : List (List ℕ)) (files : Files) (name : List ℕ) (event : Event) : Type 0 where
  pub reads : List Read
  pub begins : Begins words reads
  pub holds : Holds files reads
  pub next : IsNext words reads name
  pub stops : StopsAt reads (map.get files name) event

-- the set has no event, and these are its files: each name that is found is that of a file
pub record NoEvent (words : List (List ℕ)) (files : Files) (reads : List Read) : Type 0 where
  pub begins : Begins words reads
  pub holds : Holds files reads
  pub all : length (found words reads) ≤ length reads

-- What `midl -o OUT FILE..` replies, and what words that don't match do.
use Rattle.std.specs.Prelude.{◌≡◌, ◌⊎◌, ℕ, true, false, Some, List, [], ◌∷◌, ◌++◌, codes}
use Rattle.std.specs.FinMap as map
use Rattle.ranked.specs.Entries.{Entry}
use Rattle.ranked.specs.First.{Clear}
use Rattle.wr_base.specs.declared.declaration.Declaration.{Declaration}
use Rattle.wr_outside.specs.Files.{Files}
use Rattle.midl_names.specs.Declares.{Declares}
use Rattle.midl_names.specs.Names.{Names}
use Rattle.source_set.specs.Events.{Event, too_many, missing, too_long, refused, Awaits, FirstEvent, NoEvent}
use Rattle.source_set.specs.Found.{Read}
use Rattle.source_set.specs.Lines.{IsRefusalLine}
use Rattle.wr_tools.specs.Reply.{Reply, refusal, done}
use Rattle.wr_tools.specs.Command.{Command}
use Rattle.wr_tools.specs.Outside.{ForSome}
use Rattle.source_set.specs.Texts.{text_at}
use Rattle.wr_tools.specs.Sets.{sources_of, FirstFault, Sound, Unbroken, Image}

abbrev pub unmatched : List ℕ
unmatched = codes "winrt: the words do not match\n"

-- the line of a file's event; a refused file has the line of its refusal
abbrev pub EventLine : Files → List ℕ → Event → List ℕ → Type 0
EventLine files name too_many line = line ≡ name ++ codes ": TooMany\n"
EventLine files name missing line = line ≡ name ++ codes ": Missing\n"
EventLine files name too_long line = line ≡ name ++ codes ": TooLong\n"
EventLine files name (refused e) line = (bytes : List ℕ) × (map.get files name ≡ Some bytes) × IsRefusalLine name bytes e line

-- content is refused by 1, and a file by 3
abbrev pub status_of : Event → ℕ
status_of too_many = 3
status_of missing = 3
status_of too_long = 3
status_of (refused e) = 1

-- a file of the set is refused, the first in its order
pub record FileRefused (words : List (List ℕ)) (files : Files) (reply : Reply) : Type 0 where
  pub name : List ℕ
  pub event : Event
  pub first : FirstEvent words files name event
  pub line : List ℕ
  pub said : EventLine files name event line
  pub is : reply ≡ refusal (status_of event) line

-- each file has a tree, and the first fault of the set is refused: names, made names, rules, limits
pub record SetRefused (words : List (List ℕ)) (files : Files) (reply : Reply) : Type 0 where
  pub reads : List Read
  pub read : NoEvent words files reads
  pub fault : Entry
  pub first : FirstFault (sources_of reads) fault
  pub line : List ℕ
  pub said : IsRefusalLine (text_at reads fault.file).0 (text_at reads fault.file).1 fault line
  pub is : reply ≡ refusal 1 line

-- nothing is broken, and an image of the full types is written
pub record Compiled (out : List ℕ) (words : List (List ℕ)) (files : Files) (reply : Reply) : Type 0 where
  pub reads : List Read
  pub read : NoEvent words files reads
  pub types : List Declaration
  pub resolved : Clear (Names (sources_of reads))
  pub sound : Sound (Declares (sources_of reads)) types
  pub bytes : List ℕ
  pub image : Image types bytes
  pub is : reply ≡ done out bytes

-- the order of refusals: file by file, then what is broken in the set
abbrev pub MidlReplies : List ℕ → List (List ℕ) → Files → Reply → Type 0
MidlReplies out words files reply = FileRefused words files reply ⊎ SetRefused words files reply ⊎ Compiled out words files reply

-- each file is held within its limit and has a tree, none is the 257th, and nothing is broken
pub record IsRight (words : List (List ℕ)) (files : Files) : Type 0 where
  pub reads : List Read
  pub read : NoEvent words files reads
  pub unbroken : Unbroken (sources_of reads)

-- `midl -o OUT FILE..` reads the files and what they import, writes OUT and prints nothing.
abbrev pub midl_command : List ℕ → List (List ℕ) → Command
midl_command out words = record {
  matched = true;
  replies = λ held reply. ForSome held (λ files. MidlReplies out words files reply);
  awaits = λ held name. ForSome held (λ files. Awaits words files name);
  accepts = IsRight words;
  writes = out ∷ [];
  prints = false;
}

-- Words that don't match are refused, and no file is read or written.
abbrev pub unmatched_command : Command
unmatched_command = record {
  matched = false;
  replies = λ held reply. reply ≡ refusal 2 unmatched;
  awaits = λ held name. ⊥;
  accepts = λ files. ⊥;
  writes = [];
  prints = false;
}

-- What an answer of the whole set says.
use Rattle.std.specs.Prelude.{◌≡◌, ℕ, List, map, Option, Some, string_bytes}
use Rattle.std.specs.FinMap as finite
use Rattle.wr_outside.specs.Files.{Files}
use Rattle.source_set.specs.declared.source.Source.{Source}
use Rattle.source_set.specs.declared.source.SourceStop.{SourceStop}
use Rattle.source_set.specs.declared.source.SourceStop.TheVariants.{TooMany, Missing, TooLong, ReadFault, Refused, Memory}
use Rattle.source_set.specs.Events.{Event, too_many, missing, too_long, refused, Awaits, FirstEvent, NoEvent}
use Rattle.source_set.specs.Reads.{read_of, AreNumbered, MayHold}

-- the set has no event, and these are its sources, where the store holds what it may hold
pub record Complete (words : List (List ℕ)) (held : Option Files) (sources : List Source) : Type 0 where
  pub files : Files
  pub may_hold : MayHold held files
  pub none : NoEvent words files (map read_of sources)
  pub numbered : AreNumbered sources

-- the event is the first of the set, at the file of this name, where the store holds what it may hold
pub record Stopped (words : List (List ℕ)) (held : Option Files) (name : List ℕ) (event : Event) : Type 0 where
  pub files : Files
  pub may_hold : MayHold held files
  pub first : FirstEvent words files name event

-- the same for a refusal, and these are the bytes of the file
pub record Faulted (words : List (List ℕ)) (held : Option Files) (name bytes : List ℕ) (event : Event) : Type 0 where
  pub files : Files
  pub may_hold : MayHold held files
  pub first : FirstEvent words files name event
  pub bytes_are : finite.get files name ≡ Some bytes

-- no file before the one of this name has an event, where the store holds what it may hold
pub record Reached (words : List (List ℕ)) (held : Option Files) (name : List ℕ) : Type 0 where
  pub files : Files
  pub may_hold : MayHold held files
  pub awaits : Awaits words files name

-- what stopped the set; of want of memory nothing is said
abbrev pub StopIs : List (List ℕ) → Option Files → SourceStop → Type 0
StopIs words held (TooMany name) = Stopped words held (string_bytes name) too_many
StopIs words held (Missing name) = Stopped words held (string_bytes name) missing
StopIs words held (TooLong name) = Stopped words held (string_bytes name) too_long
StopIs words held (ReadFault name) = Reached words held (string_bytes name)
StopIs words held (Refused text refusal) = Faulted words held (string_bytes text.name) text.bytes.items (refused refusal)
StopIs words held Memory = Unit {0}

-- a read failed
abbrev pub IsReadFault : SourceStop → Type 0
IsReadFault (TooMany name) = ⊥
IsReadFault (Missing name) = ⊥
IsReadFault (TooLong name) = ⊥
IsReadFault (ReadFault name) = Unit {0}
IsReadFault (Refused text refusal) = ⊥
IsReadFault Memory = ⊥

-- What reading one file answers.
use Rattle.std.specs.Prelude.{◌≡◌, ℕ, ◌<◌, ◌≤◌, List, length, Option, None, Some, IsSomeAnd, IfSome, Result, Ok, Err, string_bytes}
use Rattle.std.specs.FinMap as map
use Rattle.ranked.specs.First.{IsFirst}
use Rattle.wr_outside.specs.Files.{Files}
use Rattle.midl_tree.specs.Views.{source_view}
use Rattle.source_set.specs.declared.source.Source.{Source}
use Rattle.source_set.specs.declared.source.SourceStop.{SourceStop}
use Rattle.source_set.specs.declared.source.SourceStop.TheVariants.{TooMany, Missing, TooLong, ReadFault, Refused, Memory}
use Rattle.source_set.specs.Phases.{HasTree, Faulty}

-- by what is held under the name: a file of at most so many bytes with its tree, or why there is none
abbrev pub TurnIs : ℕ → ℕ → List ℕ → Option (List ℕ) → Result Source SourceStop → Type 0
TurnIs number limit name content (Ok s) =
    (string_bytes s.text.name ≡ name) × (content ≡ Some s.text.bytes.items) × (length s.text.bytes.items ≤ limit)
    × HasTree s.text.bytes.items (source_view s.file) × (s.file.number ≡ number)
TurnIs number limit name content (Err (TooMany n)) = ⊥
TurnIs number limit name content (Err (Missing n)) = (string_bytes n ≡ name) × (content ≡ None)
TurnIs number limit name content (Err (TooLong n)) = (string_bytes n ≡ name) × IsSomeAnd content (λ bytes. limit < length bytes)
TurnIs number limit name content (Err (ReadFault n)) = string_bytes n ≡ name
TurnIs number limit name content (Err (Refused text refusal)) =
    (string_bytes text.name ≡ name) × (content ≡ Some text.bytes.items) × (length text.bytes.items ≤ limit)
    × IsFirst (Faulty number text.bytes.items) (Some refusal)
TurnIs number limit name content (Err Memory) = Unit {0}

-- the same for what the store holds, as far as it tells
pub record Turn (held : Option Files) (number limit : ℕ) (name : List ℕ) (result : Result Source SourceStop) : Type 0 where
  pub content : Option (List ℕ)
  pub told : IfSome held (λ files. map.get files name ≡ content)
  pub is : TurnIs number limit name content result

-- What merging sets answers.
use Rattle.std.specs.Prelude.{◌≡◌, ⊤, List, Some, Result, Ok, Err}
use Rattle.std.specs.List.{All}
use Rattle.ranked.specs.Entries.{Entry}
use Rattle.ranked.specs.First.{IsFirst}
use Rattle.ranked.specs.declared.stop.Stop.{Stop}
use Rattle.ranked.specs.declared.stop.Stop.TheVariants.{Refused, Memory}
use Rattle.wr_base.specs.Places.{plain_from}
use Rattle.wr_base.specs.declared.declaration.Declaration.{Declaration}
use Rattle.wr_rules.specs.Accepted as rules
use Rattle.wr_rules.specs.Accepted.{Accepted, Proper}
use Rattle.md_merge.specs.Unions.{IsNormal, IsUnion, LeastConflict}
use Rattle.md_merge.specs.declared.refusal.MergeRefusal.{MergeRefusal}
use Rattle.md_merge.specs.declared.refusal.MergeRefusal.TheVariants.{Conflict, Broken}

-- declarations that rules can be asked of, with their lists in order
pub record IsSet (types : List Declaration) : Type 0 where
  pub proper : Proper types
  pub normal : All IsNormal types

-- the union, and it is accepted
pub record IsMerged (sets : List (List Declaration)) (types : List Declaration) : Type 0 where
  pub union : IsUnion sets types
  pub accepted : Accepted types

-- the first entry that is broken in the union, in plain places
pub record BrokenFirst (sets : List (List Declaration)) (entry : Entry) : Type 0 where
  pub types : List Declaration
  pub union : IsUnion sets types
  pub first : IsFirst (rules.Broken types (plain_from 0 types)) (Some entry)

-- why there is none
abbrev pub IsRefusalOf : List (List Declaration) → MergeRefusal → Type 0
IsRefusalOf sets (Conflict name) = LeastConflict sets name
IsRefusalOf sets (Broken entry) = BrokenFirst sets entry

-- the result is this set, unless memory ran out
abbrev pub Gives : List Declaration → Result (List Declaration) (Stop MergeRefusal) → Type 0
Gives types (Ok merged) = merged ≡ types
Gives types (Err Memory) = ⊤
Gives types (Err (Refused refusal)) = ⊥

-- the result is this refusal, unless memory ran out
abbrev pub Refuses : MergeRefusal → Result (List Declaration) (Stop MergeRefusal) → Type 0
Refuses refusal (Ok merged) = ⊥
Refuses refusal (Err Memory) = ⊤
Refuses refusal (Err (Refused other)) = other ≡ refusal

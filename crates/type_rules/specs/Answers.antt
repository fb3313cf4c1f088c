-- What the check of a set answers.
use Rattle.std.specs.Prelude.{◌≡◌, List, Some, Result, Ok, Err}
use Rattle.ranked.specs.Entries.{Entry}
use Rattle.ranked.specs.First.{IsFirst}
use Rattle.ranked.specs.declared.stop.Stop.{Stop}
use Rattle.ranked.specs.declared.stop.Stop.TheVariants.{Refused, Memory}
use Rattle.wr_base.specs.declared.declaration.Declaration.{Declaration}
use Rattle.wr_base.specs.declared.places.DeclPlaces.{DeclPlaces}
use Rattle.wr_rules.specs.Accepted.{Broken}

-- the refusal is the first of what is broken in the set
abbrev pub RefusedFirst : List Declaration → List DeclPlaces → Stop Entry → Type 0
RefusedFirst types places Memory = Unit {0}
RefusedFirst types places (Refused e) = IsFirst (Broken types places) (Some e)

-- nothing is refused
abbrev pub OnlyMemory : {X : Type 0} → Result X (Stop Entry) → Type 0
OnlyMemory (Ok x) = Unit {0}
OnlyMemory (Err Memory) = Unit {0}
OnlyMemory (Err (Refused e)) = ⊥

-- the result is this refusal, unless memory ran out
abbrev pub Refuses : {X : Type 0} → Entry → Result X (Stop Entry) → Type 0
Refuses entry (Ok x) = ⊥
Refuses entry (Err Memory) = Unit {0}
Refuses entry (Err (Refused e)) = e ≡ entry

-- What synthesis answers.
use Rattle.std.specs.Prelude.{◌≡◌, List, Some, Result, Ok, Err}
use Rattle.ranked.specs.Entries.{Entry}
use Rattle.ranked.specs.First.{IsFirst}
use Rattle.ranked.specs.declared.stop.Stop.{Stop}
use Rattle.ranked.specs.declared.stop.Stop.TheVariants.{Refused, Memory}
use Rattle.wr_base.specs.declared.places.PlacedTypes.{PlacedTypes}
use Rattle.placed_items.specs.declared.placed.PlacedItem.{PlacedItem}
use Rattle.class_synthesis.specs.Clashes.{IsClash}

-- the refusal is the first clash
abbrev pub RefusedFirst : List PlacedItem → Stop Entry → Type 0
RefusedFirst items Memory = Unit {0}
RefusedFirst items (Refused e) = IsFirst (IsClash items) (Some e)

-- nothing is refused
abbrev pub OnlyMemory : Result PlacedTypes (Stop Entry) → Type 0
OnlyMemory (Ok types) = Unit {0}
OnlyMemory (Err Memory) = Unit {0}
OnlyMemory (Err (Refused e)) = ⊥

-- the result is this refusal, unless memory ran out
abbrev pub Refuses : Entry → Result PlacedTypes (Stop Entry) → Type 0
Refuses entry (Ok types) = ⊥
Refuses entry (Err Memory) = Unit {0}
Refuses entry (Err (Refused e)) = e ≡ entry

-- What the phase of names answers.
use Rattle.std.specs.Prelude.{◌≡◌, List, Some, Result, Ok, Err}
use Rattle.ranked.specs.Entries.{Entry}
use Rattle.ranked.specs.First.{IsFirst}
use Rattle.ranked.specs.declared.stop.Stop.{Stop}
use Rattle.ranked.specs.declared.stop.Stop.TheVariants.{Refused, Memory}
use Rattle.placed_items.specs.declared.placed.PlacedItem.{PlacedItem}
use Rattle.midl_names.specs.Items.{Item, Source}
use Rattle.midl_names.specs.Names.{Broken, Names}

-- the refusal is the first of what is broken in the items
abbrev pub BrokenFirst : List Item → Stop Entry → Type 0
BrokenFirst items Memory = Unit {0}
BrokenFirst items (Refused e) = IsFirst (Broken items) (Some e)

-- the refusal is the first of what is broken
abbrev pub RefusedFirst : List Source → Stop Entry → Type 0
RefusedFirst sources Memory = Unit {0}
RefusedFirst sources (Refused e) = IsFirst (Names sources) (Some e)

-- the result is these items, unless memory ran out
abbrev pub Resolves : List PlacedItem → Result (List PlacedItem) (Stop Entry) → Type 0
Resolves items (Ok placed) = placed ≡ items
Resolves items (Err Memory) = Unit {0}
Resolves items (Err (Refused e)) = ⊥

-- the result is this refusal, unless memory ran out
abbrev pub Refuses : Entry → Result (List PlacedItem) (Stop Entry) → Type 0
Refuses entry (Ok placed) = ⊥
Refuses entry (Err Memory) = Unit {0}
Refuses entry (Err (Refused e)) = e ≡ entry

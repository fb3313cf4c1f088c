-- What a reader answers in code, beside a definition that computes.
use Rattle.std.specs.Prelude.{◌≡◌, Result, Ok, Err}
use Rattle.md_schema.specs.declared.faults.ImageFault.{ImageFault}

-- The answer is the definition's: its value, seen as the definition sees it, or its fault.
abbrev pub Gives : {X Y : Type 0} → (X → Y) → Result X ImageFault → Result Y ImageFault → Type 0
Gives view (Ok x) answer = answer ≡ Ok (view x)
Gives view (Err fault) answer = answer ≡ Err fault

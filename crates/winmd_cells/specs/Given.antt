-- What a call answers, beside a definition that may find a fault.
use Rattle.std.specs.Prelude.{◌≡◌, Result, Ok, Err}
use Rattle.md_schema.specs.declared.faults.ImageFault.{ImageFault}
use Rattle.md_schema.specs.declared.faults.ImageKind.{ImageKind}
use Rattle.ranked.specs.declared.stop.Stop.{Stop}
use Rattle.ranked.specs.declared.stop.Stop.TheVariants as stops
use Rattle.winmd_rows.specs.Faults.{Fault, Faulty}

-- the definition's fault, unless memory ran out
abbrev pub Fails : {Y : Type 0} → Stop ImageFault → Result Y Fault → Type 0
Fails stops.Memory answer = Unit {0}
Fails (stops.Refused fault) answer = answer ≡ Err (Faulty fault)

-- what was returned, seen by view, is the definition's answer, unless memory ran out
abbrev pub Gives : {X Y : Type 0} → (X → Y) → Result X (Stop ImageFault) → Result Y Fault → Type 0
Gives view (Ok x) answer = answer ≡ Ok (view x)
Gives view (Err e) answer = Fails e answer

-- the same where a fault has no place so far
abbrev pub Finds : {X Y : Type 0} → (X → Y) → Result X ImageKind → Result Y ImageKind → Type 0
Finds view (Ok x) answer = answer ≡ Ok (view x)
Finds view (Err kind) answer = answer ≡ Err kind

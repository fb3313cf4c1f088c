-- What a call answers, beside a definition that may find a fault.
use Rattle.std.specs.Prelude.{◌≡◌, Result, Ok, Err}
use Rattle.ranked.specs.declared.stop.Stop.{Stop}
use Rattle.ranked.specs.declared.stop.Stop.TheVariants as stops

-- the definition's fault, unless memory ran out
abbrev pub Fails : {F Y : Type 0} → Stop F → Result Y F → Type 0
Fails stops.Memory answer = Unit {0}
Fails (stops.Refused fault) answer = answer ≡ Err fault

-- what was returned, seen by view, is the definition's answer, unless memory ran out
abbrev pub Gives : {F X Y : Type 0} → (X → Y) → Result X (Stop F) → Result Y F → Type 0
Gives view (Ok x) answer = answer ≡ Ok (view x)
Gives view (Err e) answer = Fails e answer

-- the same of a call that takes no memory
abbrev pub Finds : {F X Y : Type 0} → (X → Y) → Result X F → Result Y F → Type 0
Finds view (Ok x) answer = answer ≡ Ok (view x)
Finds view (Err e) answer = answer ≡ Err e

-- A refusal among the answers of a call that takes memory.
use Rattle.ranked.specs.declared.stop.Stop.{Stop}
use Rattle.ranked.specs.declared.stop.Stop.TheVariants.{Refused, Memory}

-- a fact on the refusal, if it is one
abbrev pub IfRefused : {R : Type 0} → Stop R → (R → Type 0) → Type 0
IfRefused (Refused refusal) P = P refusal
IfRefused Memory P = Unit {0}

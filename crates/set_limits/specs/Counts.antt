-- What is counted.
use Rattle.std.specs.Prelude.{◌-◌, ◌^◌, ℕ, min, length}
use Rattle.wr_base.specs.declared.declaration.Signature.{Signature}
use Rattle.wr_rules.specs.Members.{Standing}

-- the number, or the greatest that a u64 holds
abbrev pub capped : ℕ → ℕ
capped n = min n (2 ^ 64 - 1)

-- how many parameters a signature has
abbrev pub params_of : Standing Signature → ℕ
params_of g = length g.part.params

-- What uses weigh.
use Rattle.std.specs.Prelude.{ℕ}
use Rattle.std.specs.List.{sum_by}
use Rattle.wr_base.specs.Trees.{UseTree, within}
use Rattle.wr_rules.specs.Kinds.{use_name}
use Rattle.wr_rules.specs.Uses.{Used}
use Rattle.wr_rules.specs.Limits.{bytes_by}

-- a base or a name
abbrev pub one_word : UseTree → ℕ
one_word u = 1

-- the bytes of the full name, where there is one
abbrev pub name_bytes : UseTree → ℕ
name_bytes u = bytes_by (use_name u)

-- what a use weighs with all that is within it
abbrev pub weight_of : (UseTree → ℕ) → UseTree → ℕ
weight_of weigh u = sum_by weigh (within u)

-- the same of a use with its role
abbrev pub weight_at : (UseTree → ℕ) → Used → ℕ
weight_at weigh u = weight_of weigh u.use_

-- Methods by name and number of parameters, as a text.
use Rattle.std.specs.Prelude.{ℕ, zero, suc, List, [], ◌∷◌, ◌++◌}
use Rattle.wr_base.specs.Lower.{lower}
use Rattle.wr_rules.specs.Members as members
use Rattle.placed_sites.specs.Views.{spot_view}
use Rattle.member_rules.specs.declared.overloads.Overload.{Overload}

-- so many digits
abbrev pub ones : ℕ → List ℕ
ones zero = []
ones (suc n) = 49 ∷ ones n

-- as many digits as there are parameters, another digit, and the name
abbrev pub key_of : ℕ → List ℕ → List ℕ
key_of count name = ones count ++ 48 ∷ name

-- the number of parameters with the name in lower case, where the method stands
abbrev pub overload_view : Overload → members.Standing (List ℕ)
overload_view o = record { part = o.count ∷ lower o.name.now; spot = spot_view o.spot }

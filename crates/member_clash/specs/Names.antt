-- The numbers of names in lower case.
use Rattle.std.specs.Prelude.{ℕ, List, ◌∷◌, Option}
use Rattle.wr_base.specs.declared.declaration.Member.{Member}
use Rattle.wr_rules.specs.Members.{member_name, accessors_of}
use Rattle.wr_base.specs.Lower.{lower}
use Rattle.numbered.specs.Numbers.{IsNumbering, PutBy}

-- names' numbers were put behind a list, by lower case
abbrev pub Put : (List ℕ → Option ℕ) → (List ℕ → Option ℕ) → ℕ → List (List ℕ) → List ℕ → List ℕ → Type 0
Put f g count names old new = PutBy lower (IsNumbering g count) f g names old new

-- the names of a member and of its accessors
abbrev pub names_in : Member → List (List ℕ)
names_in m = member_name m ∷ accessors_of m

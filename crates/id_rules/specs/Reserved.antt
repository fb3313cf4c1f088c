-- Who has the reserved ids.
use Rattle.std.specs.Prelude.{◌≡◌, ◌↔◌, ℕ, List, Option, Some, Contains}
use Rattle.wr_rules.specs.NameRules.{reserved_ids}

-- the ids of a list, each under one number, and no others
abbrev pub Owns : (ℕ → Option ℕ) → ℕ → List ℕ → Type 0
Owns f number ids = (id owner : ℕ) → (f id ≡ Some owner) ↔ ((owner ≡ number) × Contains ids id)

-- the reserved ids, under the greatest number
abbrev pub OwnsReserved : (ℕ → Option ℕ) → Type 0
OwnsReserved f = Owns f 4294967295 reserved_ids

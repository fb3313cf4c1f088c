-- The owner of an interface.
use Rattle.std.specs.Prelude.{ℕ, List, Option, Some, None}
use Rattle.wr_base.specs.declared.declaration.Declaration.TheVariants.{Interface}
use Rattle.wr_rules.specs.Kinds.{Meaning, declared}

-- the class that an interface was made for
abbrev pub owner_in : Option Meaning → Option (List ℕ)
owner_in (Some (declared (Interface name version id owner requires_ members))) = owner
owner_in _ = None

-- Instances of templates have arguments (MIDL 3.0 reference, Parameterized types).
use Rattle.std.specs.Prelude.{ℕ, List}
use Rattle.std.specs.List.{All}
use Rattle.wr_base.specs.Trees.{UseTree, plain, value, reference, instance, UseTrees, no_uses, use_and, tree_of}
use Rattle.placed_items.specs.declared.placed.PlacedItem.{PlacedItem}
use Rattle.placed_items.specs.Named.{written_uses}

-- each instance in a use, at any depth, has an argument
abbrev mutual
  pub IsApplied : UseTree → Type 0
  IsApplied (plain base) = Unit {0}
  IsApplied (value name) = Unit {0}
  IsApplied (reference name) = Unit {0}
  IsApplied (instance name no_uses) = ⊥
  IsApplied (instance name (use_and u us)) = IsApplied u × HaveApplied us

  pub HaveApplied : UseTrees → Type 0
  HaveApplied no_uses = Unit {0}
  HaveApplied (use_and u us) = IsApplied u × HaveApplied us

-- each use in each item
abbrev pub AreApplied : List PlacedItem → Type 0
AreApplied = All (λ (i : PlacedItem). All (λ u. IsApplied (tree_of u)) (written_uses i.item))

-- Which sets an image states whole.
use Rattle.std.specs.Prelude.{◌≤◌, List, length, map}
use Rattle.std.specs.List.{AllByRecursion}
use Rattle.winmd_sets.specs.Fits.{DeclFits}
use Rattle.winmd_sets.specs.Types.{all_parts_of, sum_of}
use Rattle.wr_base.specs.Trees.{decl_tree}
use Rattle.wr_base.specs.declared.declaration.Declaration.{Declaration}

-- Each declaration has names, cases, uses and lists that rows can state, and there are at most 20,000 types with 500,000 parts together.
pub record Writable (types : List Declaration) : Type 0 where
  pub each : AllByRecursion DeclFits (map decl_tree types)
  pub few : length types ≤ 20000
  pub small : sum_of all_parts_of (map decl_tree types) ≤ 500000

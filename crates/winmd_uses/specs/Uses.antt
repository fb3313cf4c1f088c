-- What the rows of a set use.
use Rattle.std.specs.Prelude.{◌≡◌, ℕ, ◌&&◌, not, ◌++◌, bytes_eq, List, map}
use Rattle.std.specs.List.{list_any}
use Rattle.wr_base.specs.Trees.{DeclTree, name_of}
use Rattle.winmd_lines.specs.Lines.{Line}
use Rattle.winmd_lines.specs.Makers.{Maker}
use Rattle.winmd_lines.specs.Names.{is_declared, is_maker, used, names_in_cell, specs_in_cell, makers_in_cell}
use Rattle.winmd_sets.specs.Rows.{once, own_lines, made_lines, used_specs, used_makers}
use Rattle.winmd_uses.specs.declared.used.Used.{Used}
use Rattle.winmd_uses.specs.Takes.{has_name, has_maker, instances_of}

-- the lines of a set: those of its declarations, and of the constructors and instances that they use
abbrev pub lines_behind : List DeclTree → List Line
lines_behind ds = own_lines ds ++ made_lines (used_specs (own_lines ds)) (used_makers (own_lines ds))

-- Exactly the names that a set's lines use and that it doesn't declare, the constructors and the instances of its lines; instances in the order in which they are first used.
pub record IsUsed (declared : List DeclTree) (u : Used) : Type 0 where
  pub names : (name : List ℕ) → has_name u name ≡ (not (is_declared (map name_of declared) name) && list_any (bytes_eq name) (used names_in_cell (lines_behind declared)))
  pub makers : (maker : Maker) → has_maker u maker ≡ list_any (is_maker maker) (used makers_in_cell (own_lines declared))
  pub specs : instances_of u ≡ once (used specs_in_cell (own_lines declared))

use Rattle.std.proofs.Common.{◌≡◌, map, take}
use Rattle.wr_base.specs.Trees.{tree_of}
use Rattle.winmd_names.specs.Texted.{trees_in}
use Rattle.winmd_names.proofs.instance_rows.with_texts.Given as goal

abbrev pub invariant-loop-ty : goal.invariant-loop-ty
invariant-loop-ty l = trees_in l.list.items ≡ map tree_of (take l.ty-index l.uses)

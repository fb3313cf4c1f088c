use Rattle.std.proofs.Common.{◌≡◌, ◌++◌, map}
use Rattle.std.specs.Vec.Iter.{into_iter_items}
use Rattle.wr_base.specs.Trees.{tree_of}
use Rattle.winmd_names.specs.Texted.{trees_in}
use Rattle.winmd_names.proofs.instance_rows.without_texts.Given as goal

abbrev pub invariant-loop-entry : goal.invariant-loop-entry
invariant-loop-entry l = map tree_of l.uses.items ++ trees_in (into_iter_items l.entry-iterator) ≡ trees_in l.fn.list.items

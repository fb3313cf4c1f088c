use Rattle.std.proofs.Common.{take}
use Rattle.placed_items.specs.Items.{written_names}
use Rattle.class_synthesis.specs.Taken.{Holds}
use Rattle.class_synthesis.proofs.taken.declared.Given as goal

abbrev pub invariant-loop-item : goal.invariant-loop-item
invariant-loop-item l = Holds l.taken (written_names (take l.item-index l.items))

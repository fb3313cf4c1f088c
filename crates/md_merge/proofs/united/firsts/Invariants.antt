use Rattle.std.proofs.Common.{◌≡◌}
use Rattle.std.specs.Prelude.{fold}
use Rattle.std.specs.Vec.Iter.{into_iter_items}
use Rattle.md_merge.specs.Neighbours.{put, firsts}
use Rattle.md_merge.proofs.united.firsts.Given as goal

abbrev pub invariant-loop-declaration : goal.invariant-loop-declaration
invariant-loop-declaration l = fold put l.done.items (into_iter_items l.declaration-iterator) ≡ firsts l.fn.list.items

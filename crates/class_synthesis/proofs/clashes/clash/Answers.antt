use Rattle.std.proofs.Common.{arith}
use Rattle.ranked.proofs.FirstLaws.{none_below, finished}
use Rattle.class_synthesis.proofs.TakenLaws.{clash_turn, holds_made, holds_start}
use Rattle.class_synthesis.proofs.clashes.clash.Goals as goal

pub loop-item-init : goal.loop-item-init
loop-item-init c = record {
  first = none_below _;
  taken = holds_start c.args.items.now c.in_ok-taken.taken c.in_ok-taken.ensures;
}

pub loop-item-preserved : goal.loop-item-preserved
loop-item-preserved c = record {
  first = clash_turn c.args.items.now c.loop-item.item-index c.item-item.result c.loop-item.taken c.loop-item.first c.in_ok-clash_at.field-0 c.earlier-first.result (omega arith)
      c.item-item.is c.loop-item.invariant.taken c.in_ok-clash_at.ensures.first c.earlier-first.ensures c.loop-item.invariant.first;
  taken = holds_made c.args.items.now c.loop-item.item-index c.item-item.result c.loop-item.taken c.clash_at.new.taken (omega arith) c.item-item.is c.loop-item.invariant.taken c.in_ok-clash_at.ensures.marked;
}

pub returns : goal.returns
returns c = finished _ c.loop-item.item-index _ c.loop-item.first c.loop-item.invariant.first (omega arith)

use Rattle.std.proofs.Common.{◌∙◌, ◌++◌, ap, sym}
use Rattle.std.proofs.Math.Seq.{take-length}
use Rattle.wr_base.proofs.SetLemmas.{nothing_yet, one_more, left_less}
use Rattle.wr_base.proofs.sets.by_key.Goals as goal

pub loop-item-init : goal.loop-item-init
loop-item-init g c = record {
  left = sym (take-length c.args.items);
  found = nothing_yet g.T.Keyed.key c.args.items c.new-found.result.entries c.new-found.ensures.empty;
}

pub loop-item-preserved : goal.loop-item-preserved
loop-item-preserved g c = record {
  left = left_less c.args.items c.loop-item.rest c.pop.new.self c.in-Some.item c.in-Some.ensures c.loop-item.invariant.left;
  found = one_more g.T.Keyed.key c.args.items c.loop-item.rest c.pop.new.self c.in-Some.item c.loop-item.found.entries c.put.new.found.entries c.push_key.new.text
      c.in-Some.ensures c.loop-item.invariant.left
      (c.in_ok-push_key.ensures ∙ ap (λ t. t ++ g.T.Keyed.key c.in-Some.item) c.new-text.ensures.bytes) c.in_ok-put.ensures c.loop-item.invariant.found;
}

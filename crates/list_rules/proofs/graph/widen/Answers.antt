use Rattle.std.proofs.Common.{◌∷◌, [], length, length-append, ap, arith}
use Rattle.chains.specs.Groups.{graph_of}
use Rattle.list_rules.proofs.RowLaws.{wider}
use Rattle.list_rules.proofs.graph.widen.Goals as goal

pub loop-next-preserved : goal.loop-next-preserved
loop-next-preserved c = record {
  size = let a = ap length c.in_ok-push.ensures.items in let m = length-append c.loop-next.rows.items (c.new.result ∷ []) in let s = c.loop-next.invariant.size in omega (arith, a, m, s);
  rows = wider (graph_of c.args.rows.now.items) c.loop-next.rows.items c.push.new.self.items c.new.result c.in_ok-push.ensures.items c.new.ensures.items c.loop-next.invariant.rows;
}

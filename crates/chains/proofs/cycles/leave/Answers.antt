use Rattle.std.proofs.Common.{◌<◌, arith, refl, ap, length, get_or}
use Rattle.chains.specs.declared.group.Mark.TheVariants.{Done}
use Rattle.chains.proofs.Marking.{here_more, there_more, news_more, In-get_or}
use Rattle.chains.proofs.cycles.leave.Goals as goal

pub bounds-marks-node : goal.bounds-marks-node
bounds-marks-node c =
    let l : c.loop-node.node-index < length c.args.group.now.nodes.items = omega (arith, ap length c.deref-node-items.ensures.value) in
    let within = c.requires (get_or c.args.group.now.nodes.items c.loop-node.node-index 0) (In-get_or c.args.group.now.nodes.items c.loop-node.node-index l) in
    omega (arith, within, ap (λ xs. get_or xs c.loop-node.node-index 0) c.deref-node-items.ensures.value)

pub loop-node-preserved : goal.loop-node-preserved
loop-node-preserved c =
    let l : c.loop-node.node-index < length c.args.group.now.nodes.items = omega (arith, ap length c.deref-node-items.ensures.value) in
    let e = ap (λ xs. get_or xs c.loop-node.node-index 0) c.deref-node-items.ensures.value in
    let within0 = c.requires (get_or c.args.group.now.nodes.items c.loop-node.node-index 0) (In-get_or c.args.group.now.nodes.items c.loop-node.node-index l) in
    let within : get_or c.deref-node-items.result.now c.loop-node.node-index 0 < length c.loop-node.marks = omega (arith, within0, e) in
    record {
      here = here_more c.loop-node.marks _ c.args.marks.now c.args.group.now.nodes.items c.loop-node.node-index (get_or c.deref-node-items.result.now c.loop-node.node-index 0) (Done c.args.group.now.cyclic) l e within refl c.loop-node.invariant.here;
      there = there_more c.loop-node.marks _ c.args.marks.now c.args.group.now.nodes.items c.loop-node.node-index (get_or c.deref-node-items.result.now c.loop-node.node-index 0) (Done c.args.group.now.cyclic) l e within refl c.loop-node.invariant.there;
      news = news_more c.loop-node.marks _ c.args.marks.now c.args.group.now.nodes.items c.loop-node.node-index (get_or c.deref-node-items.result.now c.loop-node.node-index 0) (Done c.args.group.now.cyclic) l e within refl refl c.loop-node.invariant.news;
    }

use Rattle.std.proofs.Common.{◌<◌, refl, subst, sym, length, get_or, arith}
use Rattle.std.proofs.lemmas.List.{take_all}
use Rattle.chains.specs.Graphs.{In}
use Rattle.chains.specs.Groups.{graph_of}
use Rattle.chains.proofs.Marking.{In-get_or}
use Rattle.stamps.proofs.Stamps.{none_out, in_more, out_now, raised_then, raised_upto}
use Rattle.stamps.proofs.within.one_leads_out.Goals as goal

pub leads_lower-requires-clause-within : goal.leads_lower-requires-clause-within
leads_lower-requires-clause-within c = c.requires.within (get_or c.args.set.now c.loop-x.x-index 0) (In-get_or c.args.set.now c.loop-x.x-index (omega arith))

pub loop-x-preserved : goal.loop-x-preserved
loop-x-preserved c =
    let i = c.loop-x.x-index in
    let a = get_or c.args.set.now i 0 in
    let l : i < length c.args.set.now = omega arith in
    record {
      raised = raised_then (graph_of c.args.graph.now) c.args.mine c.args.stamps.now c.loop-x.stamps c.leads_lower.new.stamps c.loop-x.invariant.raised c.leads_lower.ensures.raised;
      done = in_more (graph_of c.args.graph.now) c.args.mine c.args.set.now c.args.stamps.now c.requires.here c.requires.there c.loop-x.stamps c.loop-x.invariant.raised i a l refl
          (c.leads_lower.ensures.kept c.if-leads_lower.false) c.loop-x.invariant.done;
    }

pub returns-then-leads_lower : goal.returns-then-leads_lower
returns-then-leads_lower c =
    let i = c.loop-x.x-index in
    let a = get_or c.args.set.now i 0 in
    let l : i < length c.args.set.now = omega arith in
    record {
      out = (λ t. out_now (graph_of c.args.graph.now) c.args.mine c.args.set.now c.args.stamps.now c.requires.here c.requires.there c.loop-x.stamps c.loop-x.invariant.raised i a l refl (c.leads_lower.ensures.out c.if-leads_lower.true), λ o. refl);
      upto = raised_upto (graph_of c.args.graph.now) c.args.mine c.args.set.now c.args.stamps.now c.requires.here c.requires.there c.leads_lower.new.stamps
          (raised_then (graph_of c.args.graph.now) c.args.mine c.args.stamps.now c.loop-x.stamps c.leads_lower.new.stamps c.loop-x.invariant.raised c.leads_lower.ensures.raised);
    }

pub returns : goal.returns
returns c = record {
  out = (
    λ t. cc,
    λ o. absurd (none_out (graph_of c.args.graph.now) c.args.set.now (λ x y h s. c.loop-x.invariant.done x y (subst (In x) (sym (take_all c.loop-x.x-index c.args.set.now (omega arith))) h) s) o),
  );
  upto = raised_upto (graph_of c.args.graph.now) c.args.mine c.args.set.now c.args.stamps.now c.requires.here c.requires.there c.loop-x.stamps c.loop-x.invariant.raised;
}

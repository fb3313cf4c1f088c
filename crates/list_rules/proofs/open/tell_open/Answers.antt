use Rattle.std.proofs.Common.{◌↔◌, ℕ, List, Bool, IsTrue, sym, subst, arith}
use Rattle.chains.specs.Graphs.{In, steps_of}
use Rattle.chains.specs.Groups.{graph_of}
use Rattle.stamps.specs.Within.{LeadsOut}
use Rattle.list_rules.specs.Open.{TellOpen}
use Rattle.list_rules.proofs.FlagLaws.{tells_none, tells_more}
use Rattle.list_rules.proofs.open.tell_open.Goals as goal

pub leads_out-told-requires-clause-within : goal.leads_out-told-requires-clause-within
leads_out-told-requires-clause-within c = λ x h. c.requires.within c.loop-i.i x (subst (In x) c.row_at.ensures h)

pub leads_out-told-requires-clause-lower : goal.leads_out-told-requires-clause-lower
leads_out-told-requires-clause-lower c = λ x. (let u = c.loop-i.invariant.upto x in omega (arith, u))

pub loop-i-init : goal.loop-i-init
loop-i-init c = record {
  told = subst (λ (on : List Bool). TellOpen (graph_of c.args.graph.now) (graph_of c.args.sets.now) 0 on) (sym c.new-on.ensures.items) (tells_none (λ k. LeadsOut (graph_of c.args.graph.now) (steps_of (graph_of c.args.sets.now) k)));
  upto = c.requires.clear;
}

pub loop-i-preserved : goal.loop-i-preserved
loop-i-preserved c = record {
  told = tells_more (λ k. LeadsOut (graph_of c.args.graph.now) (steps_of (graph_of c.args.sets.now) k)) c.loop-i.i c.loop-i.on.items c.push.new.self.items c.leads_out-told.result c.loop-i.invariant.told c.in_ok-push.ensures.items
      (subst (λ (s : List ℕ). IsTrue c.leads_out-told.result ↔ LeadsOut (graph_of c.args.graph.now) s) c.row_at.ensures c.leads_out-told.ensures.out);
  upto = λ x. (let u = c.leads_out-told.ensures.upto x in omega (arith, u));
}

pub returns : goal.returns
returns c = subst (λ (n : ℕ). TellOpen (graph_of c.args.graph.now) (graph_of c.args.sets.now) n c.loop-i.on.items) (omega arith) c.loop-i.invariant.told

use Rattle.std.proofs.Common.{◌↔◌, ℕ, List, Bool, IsTrue, sym, subst, arith}
use Rattle.chains.specs.Graphs.{In, steps_of}
use Rattle.chains.specs.Groups.{graph_of}
use Rattle.list_rules.specs.Open.{TellCyclic}
use Rattle.list_rules.proofs.FlagLaws.{tells_none, tells_more}
use Rattle.list_rules.proofs.open.tell_cyclic.Goals as goal

pub loop-i-init : goal.loop-i-init
loop-i-init c = subst (λ (on : List Bool). TellCyclic (graph_of c.args.graph.now) 0 on) (sym c.new-on.ensures.items) (tells_none (λ k. In k (steps_of (graph_of c.args.graph.now) k)))

pub loop-i-preserved : goal.loop-i-preserved
loop-i-preserved c =
    tells_more (λ k. In k (steps_of (graph_of c.args.graph.now) k)) c.loop-i.i c.loop-i.on.items c.push.new.self.items c.has-told.result c.loop-i.invariant c.in_ok-push.ensures.items
    (subst (λ (s : List ℕ). IsTrue c.has-told.result ↔ In c.loop-i.i s) c.row_at.ensures c.has-told.ensures)

pub returns : goal.returns
returns c = subst (λ (n : ℕ). TellCyclic (graph_of c.args.graph.now) n c.loop-i.on.items) (omega arith) c.loop-i.invariant

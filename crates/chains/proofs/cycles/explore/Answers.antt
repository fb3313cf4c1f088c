use Rattle.std.proofs.Common.{◌≡◌, ◌<◌, ◌+◌, arith, sym, ap, subst, ◌∙◌, length, List, [], ◌∷◌}
use Rattle.std.proofs.lemmas.List.{length-map}
use Rattle.chains.specs.Groups.{GroupView, view_of, views_of, graph_of}
use Rattle.chains.specs.Marks.{State}
use Rattle.chains.proofs.Merges.{segs_push, segs_popped}
use Rattle.chains.proofs.Steps.{begins, begins_known, begins_done}
use Rattle.chains.proofs.cycles.explore.Goals as goal

pub more-init : goal.more-init
more-init c =
    let within : c.args.root < length c.args.marks.now = omega (arith, c.requires.root, c.requires.idle.whole, length-map c.args.graph.now (λ v. v.items)) in
    let one : views_of c.push.new.self.items ≡ view_of c.in_ok-group.group ∷ [] = ap views_of c.in_ok-push.ensures.items ∙ segs_push c.new-groups.result.items c.in_ok-group.group ∙ ap (λ gs. view_of c.in_ok-group.group ∷ views_of gs) c.new-groups.ensures.items in
    record {
      state = subst (λ (s : List GroupView). State (graph_of c.args.graph.now) c.enter.new.marks s (c.args.number + 1)) (sym one)
          (begins (graph_of c.args.graph.now) c.args.marks.now c.enter.new.marks (view_of c.in_ok-group.group) c.args.root c.args.number c.requires.idle c.requires.new within c.enter.ensures.marks c.in_ok-group.ensures.group);
      known = begins_known (graph_of c.args.graph.now) c.args.marks.now c.enter.new.marks (view_of c.in_ok-group.group) c.args.root c.args.number c.requires.idle c.requires.new within c.enter.ensures.marks c.in_ok-group.ensures.group;
      done = begins_done (graph_of c.args.graph.now) c.args.marks.now c.enter.new.marks (view_of c.in_ok-group.group) c.args.root c.args.number c.requires.idle c.requires.new within c.enter.ensures.marks c.in_ok-group.ensures.group;
    }

pub step-requires-clause-state : goal.step-requires-clause-state
step-requires-clause-state c =
    subst (λ (s : List GroupView). State (graph_of c.args.graph.now) c.more.marks s c.more.number)
    (segs_popped c.more.groups.items c.pop.new.self.items c.pop.result c.in-Some.top c.pop.ensures.items c.in-Some.is) c.more.invariant.state

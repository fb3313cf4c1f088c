use Rattle.std.proofs.Common.{◌≡◌, ◌<◌, arith, ap, ◌∙◌, length, List, ◌∷◌}
use Rattle.std.proofs.lemmas.List.{length-map}
use Rattle.chains.specs.Groups.{GroupView, view_of, views_of, graph_of}
use Rattle.chains.proofs.Merges.{segs_push}
use Rattle.chains.proofs.Steps.{follows_done, follows_open, follows_new}
use Rattle.chains.proofs.cycles.follow.Goals as goal

pub returns-in_ok-push-in-New-2 : goal.returns-in_ok-push-in-New-2
returns-in_ok-push-in-New-2 c =
    let first : views_of c.push.new.self.items ≡ view_of c.args.top ∷ views_of c.args.groups.now.items =
    ap views_of c.in_ok-push-in-New.ensures.items ∙ segs_push c.args.groups.now.items c.args.top in
    let within : c.args.next < length c.args.marks.now = omega (arith, c.requires.next, c.requires.taken.whole, length-map c.args.graph.now (λ v. v.items)) in
    follows_new (graph_of c.args.graph.now) c.args.marks.now (view_of c.args.top) (views_of c.args.groups.now.items) c.args.next c.args.number c.requires.taken
    c.enter.new.marks (views_of c.push-in-New.new.self.items) (view_of c.in_ok-group-in-New.group)
    (ap views_of c.in_ok-push-in-New-2.ensures.items ∙ segs_push c.push.new.self.items c.in_ok-group-in-New.group ∙ ap (λ (s : List GroupView). view_of c.in_ok-group-in-New.group ∷ s) first)
    c.in-New.is within c.enter.ensures.marks c.in_ok-group-in-New.ensures.group

pub returns-in_ok-push-in-Open : goal.returns-in_ok-push-in-Open
returns-in_ok-push-in-Open c =
    follows_open (graph_of c.args.graph.now) c.args.marks.now (view_of c.args.top) (views_of c.args.groups.now.items) c.args.next c.args.number c.requires.taken
    (views_of c.push-in-Open.new.self.items) (views_of c.merge.new.groups.items) (view_of c.in_ok-joined-in-Open.joined) c.in-Open.visit
    (ap views_of c.in_ok-push-in-Open.ensures.items ∙ segs_push c.merge.new.groups.items c.in_ok-joined-in-Open.joined) c.in-Open.is c.in_ok-joined-in-Open.ensures

pub returns-in_ok-push-in-Done : goal.returns-in_ok-push-in-Done
returns-in_ok-push-in-Done c =
    follows_done (graph_of c.args.graph.now) c.args.marks.now (view_of c.args.top) (views_of c.args.groups.now.items) c.args.next c.args.number c.requires.taken
    (views_of c.push-in-Done.new.self.items) c.in-Done.field-0
    (ap views_of c.in_ok-push-in-Done.ensures.items ∙ segs_push c.args.groups.now.items c.args.top) c.in-Done.is

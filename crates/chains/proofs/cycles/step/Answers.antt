use Rattle.std.proofs.Common.{◌≡◌, ◌++◌, ap, ◌∙◌, length, rules, option_to_list}
use Rattle.chains.specs.Groups.{view_of, views_of, graph_of}
use Rattle.chains.proofs.Marking.{open_within, empty_from_length}
use Rattle.chains.proofs.Steps.{leaves, takes, leads_within}
use Rattle.chains.proofs.cycles.step.Goals as goal

pub leave-requires : goal.leave-requires
leave-requires c = λ a h. (let k = c.requires.state.stack.0.numbered a h in open_within c.args.marks.now a k.0 k.1)

pub follow-requires-clause-next : goal.follow-requires-clause-next
follow-requires-clause-next c =
    leads_within (graph_of c.args.graph.now) c.args.marks.now (view_of c.args.top) (views_of c.args.groups.now.items) c.args.number c.requires.state
    (length c.args.graph.now) c.in-Some.next c.pop.new.self.items c.requires.closed (c.pop.ensures.items ∙ ap (λ o. c.pop.new.self.items ++ option_to_list o) c.in-Some.is)

pub follow-requires-clause-taken : goal.follow-requires-clause-taken
follow-requires-clause-taken c =
    takes (graph_of c.args.graph.now) c.args.marks.now (view_of c.args.top) (views_of c.args.groups.now.items) c.args.number c.requires.state
    c.pop.new.self.items c.in-Some.next (c.pop.ensures.items ∙ ap (λ o. c.pop.new.self.items ++ option_to_list o) c.in-Some.is)

pub returns-in-None : goal.returns-in-None
returns-in-None c =
    let none : length c.args.top.pending.items ≡ 0 = search rules in
    leaves (graph_of c.args.graph.now) c.args.marks.now (view_of c.args.top) (views_of c.args.groups.now.items) c.args.number c.requires.state
    c.leave.new.marks (empty_from_length c.args.top.pending.items none) c.leave.ensures.here c.leave.ensures.there c.leave.ensures.news (search rules)

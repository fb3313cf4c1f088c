use Rattle.std.proofs.Common.{◌≡◌, arith, subst, length, rules}
use Rattle.chains.specs.Groups.{view_of, views_of}
use Rattle.chains.specs.Merging.{Merged}
use Rattle.chains.proofs.Merges.{so_far_more, merge_ends, merge_fails, segs_popped, segs_empty, no_groups}
use Rattle.chains.proofs.cycles.merge.Goals as goal

pub returns-in-None : goal.returns-in-None
returns-in-None c =
    let same : c.more.groups.items ≡ c.pop.new.self.items = segs_empty c.more.groups.items c.pop.new.self.items c.pop.result c.pop.ensures.items c.in-None.is in
    let none : length c.more.groups.items ≡ 0 = search rules in
    subst (λ gs. Merged c.args.number (view_of c.args.top) (views_of c.args.groups.now.items) (view_of c.more.top) (views_of gs)) same
    (merge_fails c.args.number (view_of c.args.top) (views_of c.args.groups.now.items) (view_of c.more.top) (views_of c.more.groups.items) c.more-test.true (no_groups c.more.groups.items none) c.more.invariant)

pub more-preserved : goal.more-preserved
more-preserved c =
    so_far_more c.args.number (view_of c.args.top) (views_of c.args.groups.now.items) (view_of c.more.top) (view_of c.in-Some.lower) (view_of c.in_ok-top-in-Some.top)
    (views_of c.more.groups.items) (views_of c.pop.new.self.items) (search rules)
    (segs_popped c.more.groups.items c.pop.new.self.items c.pop.result c.in-Some.lower c.pop.ensures.items c.in-Some.is)
    c.in_ok-top-in-Some.ensures c.more.invariant

pub returns : goal.returns
returns c = merge_ends c.args.number (view_of c.args.top) (views_of c.args.groups.now.items) (view_of c.more.top) (views_of c.more.groups.items) (omega arith) c.more.invariant

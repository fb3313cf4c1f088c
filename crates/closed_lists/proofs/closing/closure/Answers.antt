use Rattle.std.proofs.Common.{arith}
use Rattle.closed_lists.specs.Views.{decls_in}
use Rattle.closed_lists.proofs.Meetings.{reaches_first, reaches_next, reaches_less, reaches_all}
use Rattle.closed_lists.proofs.closing.closure.Goals as goal

pub more-init : goal.more-init
more-init c = reaches_first (decls_in c.args.sites.now) c.args.list.now c.new-gathered.result c.meet_all.new.gathered c.new-gathered.ensures.agrees c.new-gathered.ensures.empty c.in_ok-meet_all.ensures

pub more-smaller : goal.more-smaller
more-smaller c =
    reaches_less (decls_in c.args.sites.now) c.args.list.now c.more.gathered c.follow.new.gathered c.more.next c.in_ok-follow.ensures.0 c.in_ok-follow.ensures.1 c.in_ok-follow.ensures.2 c.more.invariant

pub more-preserved : goal.more-preserved
more-preserved c =
    reaches_next (decls_in c.args.sites.now) c.args.list.now c.more.gathered c.follow.new.gathered c.more.next c.in_ok-follow.ensures.0 c.in_ok-follow.ensures.1 c.in_ok-follow.ensures.2 c.more.invariant

pub returns : goal.returns
returns c = reaches_all (decls_in c.args.sites.now) c.args.list.now c.more.gathered c.more.next (omega arith) c.more.invariant

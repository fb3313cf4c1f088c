use Rattle.member_counts.specs.Tallies.{count_at}
use Rattle.member_counts.proofs.Paired.{first_kind}
use Rattle.member_counts.proofs.overload_kind.first_counted.Goals as goal

pub returns : goal.returns
returns c =
    first_kind c.args.members.now (count_at c.in_ok-tallies.tallies.all_) c.in_ok-tallies.ensures.all_ (count_at c.in_ok-tallies.tallies.others) c.in_ok-tallies.ensures.others
    c.first_among.result c.first_among.ensures

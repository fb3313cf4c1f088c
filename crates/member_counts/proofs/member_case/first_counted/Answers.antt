use Rattle.member_counts.specs.Tallies.{count_at}
use Rattle.member_counts.proofs.Paired.{first_case}
use Rattle.member_counts.proofs.member_case.first_counted.Goals as goal

pub returns : goal.returns
returns c =
    first_case c.args.members.now (count_at c.in_ok-tallies.tallies.exact) c.in_ok-tallies.ensures.exact (count_at c.in_ok-tallies.tallies.folded) c.in_ok-tallies.ensures.folded
    c.first_among.result c.first_among.ensures

use Rattle.member_counts.specs.Tallies.{count_at}
use Rattle.accessor_clash.proofs.AbiTallies.{abis_counted}
use Rattle.accessor_clash.proofs.tallies.abis_of.Goals as goal

pub returns : goal.returns
returns c = abis_counted (count_at c.in_ok-firsts.firsts) (count_at c.in_ok-seconds.seconds) c.args.members.now c.in_ok-firsts.ensures c.in_ok-seconds.ensures

use Rattle.member_counts.specs.Tallies.{count_at}
use Rattle.accessor_clash.specs.AbiCounts.{abi_count}
use Rattle.accessor_clash.proofs.AbiTallies.{first_clash}
use Rattle.accessor_clash.proofs.clash.first_counted.Goals as goal

pub returns : goal.returns
returns c =
    first_clash c.args.members.now (abi_count c.in_ok-tallies.tallies.abis) (count_at c.in_ok-tallies.tallies.names.named) (count_at c.in_ok-tallies.tallies.names.owns)
    c.in_ok-tallies.ensures.abis c.in_ok-tallies.ensures.named c.in_ok-tallies.ensures.owns c.first_among.result c.first_among.ensures

use Rattle.std.proofs.Common.{IsTrue}
use Rattle.wr_base.specs.declared.code.Code.TheVariants.{AccessorClash}
use Rattle.placed_sites.specs.Views.{spot_view}
use Rattle.member_counts.specs.Tallies.{count_at}
use Rattle.member_counts.proofs.Paired.{tested}
use Rattle.accessor_clash.specs.AbiCounts.{abi_count, clash_by}
use Rattle.accessor_clash.proofs.AbiTallies.{as_true}
use Rattle.accessor_clash.proofs.clash.AbiTalliesItemRuleStandingMember.first_at.Goals as goal

pub returns : goal.returns
returns c =
    tested c.refuse_if.result (λ m. IsTrue (clash_by (abi_count c.args.self.now.abis) (count_at c.args.self.now.names.named) (count_at c.args.self.now.names.owns) m)) AccessorClash c.in_ok-broken.broken
    c.part.result.now c.args.item.now.part (spot_view c.spot.result) c.args.item.now.spot c.part.ensures c.spot.ensures
    (as_true c.in_ok-broken.broken (clash_by (abi_count c.args.self.now.abis) (count_at c.args.self.now.names.named) (count_at c.args.self.now.names.owns) c.part.result.now) c.in_ok-broken.ensures) c.refuse_if.ensures

use Rattle.std.proofs.Common.{length, refl}
use Rattle.std.proofs.lemmas.Option.{slice_get_read}
use Rattle.placed_sites.specs.Views.{spot_view}
use Rattle.member_counts.proofs.Pairwise.{one_paired}
use Rattle.member_counts.proofs.pairs.first_at_index.Goals as goal

pub returns : goal.returns
returns g c =
    one_paired (g.R.Relation.holds c.args.relation.now) c.args.code c.args.members.now c.args.index c.index-members-index.result
    (slice_get_read c.args.members.now (length c.args.members.now) c.args.index c.index-members-index.result refl c.requires c.index-members-index.is)
    c.refuse_if.result c.is_paired-broken.result (spot_view c.spot.result) c.is_paired-broken.ensures c.spot.ensures c.refuse_if.ensures

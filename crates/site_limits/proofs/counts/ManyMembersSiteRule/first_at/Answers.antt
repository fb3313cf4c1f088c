use Rattle.std.proofs.Common.{nat_lt}
use Rattle.placed_sites.specs.Views.{site_view, spot_view}
use Rattle.wr_base.specs.declared.code.Code.TheVariants.{ManyMembers}
use Rattle.wr_base.specs.Places.{part_count}
use Rattle.wr_rules.specs.Sites.{spot_of}
use Rattle.placed_sites.proofs.Firsts.{refused}
use Rattle.site_limits.proofs.counts.ManyMembersSiteRule.first_at.Goals as goal

pub returns : goal.returns
returns c =
    refused c.refuse_if.result c.has_many.result (nat_lt 4000 (part_count (site_view c.args.site.now).decl)) ManyMembers (spot_view c.spot.result) (spot_of (site_view c.args.site.now))
    c.has_many.ensures c.spot.ensures c.refuse_if.ensures

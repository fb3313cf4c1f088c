use Rattle.placed_sites.specs.Views.{site_view, spot_view}
use Rattle.wr_base.specs.declared.code.Code.TheVariants.{ManyUses}
use Rattle.wr_rules.specs.Sites.{spot_of}
use Rattle.placed_sites.proofs.Firsts.{refused}
use Rattle.use_limits.specs.Past.{either_past}
use Rattle.use_limits.proofs.pass.past_at.Goals as goal

pub returns : goal.returns
returns c =
    refused c.refuse_if.result c.is_past.result (either_past c.args.totals.words c.args.totals.bytes c.args.next.words c.args.next.bytes) ManyUses (spot_view c.spot.result) (spot_of (site_view c.args.site.now))
    c.is_past.ensures c.spot.ensures c.refuse_if.ensures

use Rattle.placed_sites.specs.Views.{site_view, spot_view}
use Rattle.wr_base.specs.declared.code.Code.TheVariants.{StructEmpty}
use Rattle.wr_rules.specs.Sites.{spot_of}
use Rattle.wr_rules.specs.MemberRules.{is_bare_struct}
use Rattle.placed_sites.proofs.Firsts.{refused}
use Rattle.part_rules.proofs.struct_rules.StructEmptySiteRule.first_at.Goals as goal

pub returns : goal.returns
returns c =
    refused c.refuse_if.result c.is_bare_struct.result (is_bare_struct (site_view c.args.site.now).decl) StructEmpty (spot_view c.spot.result) (spot_of (site_view c.args.site.now))
    c.is_bare_struct.ensures c.spot.ensures c.refuse_if.ensures

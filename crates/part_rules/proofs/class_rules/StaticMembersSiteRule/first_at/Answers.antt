use Rattle.std.proofs.Common.{[]}
use Rattle.placed_sites.specs.Views.{site_view, spot_view}
use Rattle.wr_base.specs.declared.code.Code.TheVariants.{StaticMembers}
use Rattle.wr_rules.specs.Sites.{spot_of}
use Rattle.wr_rules.specs.ListRules.{fixed_with}
use Rattle.placed_sites.proofs.Firsts.{refused}
use Rattle.part_rules.proofs.class_rules.StaticMembersSiteRule.first_at.Goals as goal

pub returns : goal.returns
returns c =
    refused c.refuse_if.result c.fixed_with.result (fixed_with [] (site_view c.args.site.now).decl) StaticMembers (spot_view c.spot.result) (spot_of (site_view c.args.site.now))
    c.fixed_with.ensures c.spot.ensures c.refuse_if.ensures

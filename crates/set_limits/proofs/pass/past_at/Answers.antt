use Rattle.std.proofs.Common.{◌==◌, ◌&&◌, nat_le, nat_lt, Bool, ap, ◌∙◌}
use Rattle.ranked.proofs.FirstLaws.{union_as}
use Rattle.wr_base.specs.declared.code.Code.TheVariants.{ManyTypes, ManyNames}
use Rattle.wr_rules.specs.Sites.{Spot, spot_of, broken_at, If}
use Rattle.placed_sites.specs.Views.{site_view, spot_view, give}
use Rattle.placed_sites.proofs.Firsts.{is_first}
use Rattle.set_limits.proofs.pass.past_at.Goals as goal

pub returns : goal.returns
returns c =
    union_as (If (c.args.place == 20000) ManyTypes (spot_of (site_view c.args.site.now))) (If (nat_le c.args.names 500000 && nat_lt 500000 c.args.next) ManyNames (spot_of (site_view c.args.site.now)))
    c.in_ok-types.types c.in_ok-names.names c.earlier.result c.earlier.ensures
    (is_first (c.args.place == 20000) ManyTypes (spot_of (site_view c.args.site.now)) c.in_ok-types.types
    (c.in_ok-types.ensures ∙ ap (λ (s : Spot). give (c.args.place == 20000) (broken_at ManyTypes s)) c.spot.ensures))
    (is_first (nat_le c.args.names 500000 && nat_lt 500000 c.args.next) ManyNames (spot_of (site_view c.args.site.now)) c.in_ok-names.names
    (c.in_ok-names.ensures ∙ ap (λ (b : Bool). give b (broken_at ManyNames (spot_view c.spot-2.result))) c.is_past.ensures
    ∙ ap (λ (s : Spot). give (nat_le c.args.names 500000 && nat_lt 500000 c.args.next) (broken_at ManyNames s)) c.spot-2.ensures))

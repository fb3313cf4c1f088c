use Rattle.std.proofs.Common.{Bool, arith, subst}
use Rattle.ranked.proofs.FirstLaws.{none_below, one_more_as, at_element, finished}
use Rattle.ranked.specs.First.{IsFirst}
use Rattle.placed_sites.specs.Views.{site_view}
use Rattle.wr_rules.specs.Sites.{Site, sites_of, spot_of, If}
use Rattle.flagged_sites.specs.Flags.{FlaggedAt, flag_of}
use Rattle.flagged_sites.proofs.pass.first_flagged.Goals as goal

pub loop-i-init : goal.loop-i-init
loop-i-init c = none_below _

pub loop-i-preserved : goal.loop-i-preserved
loop-i-preserved c =
    one_more_as (FlaggedAt (sites_of c.args.types.now.types c.args.types.now.places) c.args.flags.now c.args.code) c.loop-i.i c.loop-i.first c.in_ok-refuse_at.field-0 c.earlier-first.result
    c.earlier-first.ensures c.loop-i.invariant
    (at_element (sites_of c.args.types.now.types c.args.types.now.places) (λ (s : Site). If (flag_of c.args.flags.now c.loop-i.i) c.args.code (spot_of s)) c.loop-i.i _ c.in_ok-refuse_at.field-0 c.at-site.ensures
    (subst (λ (b : Bool). IsFirst (If b c.args.code (spot_of (site_view c.at-site.result))) c.in_ok-refuse_at.field-0) c.flag_of-told.ensures c.in_ok-refuse_at.ensures))

pub returns : goal.returns
returns c = finished _ c.loop-i.i _ c.loop-i.first c.loop-i.invariant (omega (arith, c.site_count-i-end.ensures.count))

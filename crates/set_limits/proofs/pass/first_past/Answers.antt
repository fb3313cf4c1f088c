use Rattle.std.proofs.Common.{◌≡◌, ◌+◌, sum_by, take, refl, sym, ap, ◌∙◌, arith}
use Rattle.ranked.proofs.FirstLaws.{none_below, one_more_as, finished}
use Rattle.placed_sites.specs.Views.{site_view}
use Rattle.wr_rules.specs.Sites.{sites_of}
use Rattle.wr_rules.specs.Limits.{names_in}
use Rattle.place_order.specs.Stands.{count_at}
use Rattle.set_limits.specs.Counts.{capped}
use Rattle.set_limits.specs.Pass.{AtOrder, TypesOrNames}
use Rattle.set_limits.proofs.CapLaws.{one_more_capped}
use Rattle.set_limits.proofs.PassLaws.{counted_more, step_past, all_in_order}
use Rattle.set_limits.proofs.pass.first_past.Goals as goal

pub loop-i-init : goal.loop-i-init
loop-i-init c = record { names = refl; first = none_below _ }

pub loop-i-preserved : goal.loop-i-preserved
loop-i-preserved c =
    let next : c.add-next.result ≡ capped (sum_by (count_at names_in (sites_of c.args.types.now.types c.args.types.now.places)) (take c.loop-i.i c.args.stands.now) + names_in (site_view c.site_of-site.result)) =
    one_more_capped c.loop-i.names c.add-next.result (sum_by (count_at names_in (sites_of c.args.types.now.types c.args.types.now.places)) (take c.loop-i.i c.args.stands.now)) c.in_ok-count.count (names_in (site_view c.site_of-site.result)) c.loop-i.invariant.names c.in_ok-count.ensures c.add-next.ensures in
    record {
      names = next ∙ ap capped (sym (counted_more (sites_of c.args.types.now.types c.args.types.now.places) c.args.stands.now c.requires names_in c.loop-i.i (site_view c.site_of-site.result) c.site_of-site.ensures));
      first = one_more_as (AtOrder (sites_of c.args.types.now.types c.args.types.now.places) c.args.stands.now TypesOrNames) c.loop-i.i c.loop-i.first c.in_ok-past_at.field-0 c.earlier-first.result c.earlier-first.ensures c.loop-i.invariant.first
          (step_past (sites_of c.args.types.now.types c.args.types.now.places) c.args.stands.now c.requires c.loop-i.i (site_view c.site_of-site.result) c.loop-i.names c.add-next.result c.site_of-site.ensures c.in_ok-past_at.field-0 c.loop-i.invariant.names next c.in_ok-past_at.ensures);
    }

pub returns : goal.returns
returns c = all_in_order (sites_of c.args.types.now.types c.args.types.now.places) c.args.stands.now c.requires TypesOrNames c.loop-i.first (finished _ c.loop-i.i _ c.loop-i.first c.loop-i.invariant.first (omega arith))

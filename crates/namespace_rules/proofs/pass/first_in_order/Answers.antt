use Rattle.std.proofs.Common.{rules, arith}
use Rattle.ranked.proofs.FirstLaws.{none_below, one_more_as, finished}
use Rattle.placed_sites.specs.Views.{site_view}
use Rattle.wr_rules.specs.Sites.{sites_of}
use Rattle.namespace_rules.specs.Pass.{ClashAt}
use Rattle.namespace_rules.proofs.MetLaws.{met_more, step_clash, all_clashes}
use Rattle.namespace_rules.proofs.pass.first_in_order.Goals as goal

pub loop-i-init : goal.loop-i-init
loop-i-init c = record { met = search rules; first = none_below _ }

pub loop-i-preserved : goal.loop-i-preserved
loop-i-preserved c = record {
  met = met_more (sites_of c.args.types.now.types c.args.types.now.places) c.args.stands.now c.loop-i.i c.site_of-site.ensures.stand (site_view c.site_of-site.result) c.name.result.now c.loop-i.met c.meet.new.met c.site_of-site.ensures.there c.site_of-site.ensures.at
      c.name.ensures c.loop-i.invariant.met c.in_ok-told.ensures.met;
  first = one_more_as (ClashAt (sites_of c.args.types.now.types c.args.types.now.places) c.args.stands.now) c.loop-i.i c.loop-i.first c.in_ok-refuse_at.field-0 c.earlier-first.result c.earlier-first.ensures c.loop-i.invariant.first
      (step_clash (sites_of c.args.types.now.types c.args.types.now.places) c.args.stands.now c.requires.order c.loop-i.i c.site_of-site.ensures.stand (site_view c.site_of-site.result) c.site_of-site.ensures.there c.site_of-site.ensures.at c.args.names.now c.loop-i.met
      c.requires.names c.loop-i.invariant.met c.in_ok-told.told c.name.result.now c.in_ok-refuse_at.field-0 c.name.ensures c.in_ok-told.ensures.told c.in_ok-refuse_at.ensures);
}

pub returns : goal.returns
returns c = all_clashes (sites_of c.args.types.now.types c.args.types.now.places) c.args.stands.now c.requires.order c.loop-i.first (finished _ c.loop-i.i _ c.loop-i.first c.loop-i.invariant.first (omega arith))

use Rattle.std.proofs.Common.{arith}
use Rattle.std.specs.HashMap.{get_by_text}
use Rattle.std.specs.HashSet.{contains_text}
use Rattle.ranked.proofs.FirstLaws.{none_below, one_more_as, finished}
use Rattle.placed_sites.specs.Views.{site_view}
use Rattle.wr_rules.specs.Sites.{sites_of}
use Rattle.id_clash.specs.Items.{is_had}
use Rattle.id_clash.specs.Pass.{TakenAt}
use Rattle.id_clash.proofs.ItemLaws.{had_reserved}
use Rattle.id_clash.proofs.PassLaws.{nothing_passed, passed_more, step_taken, all_taken}
use Rattle.id_clash.proofs.pass.first_in_order.Goals as goal

pub loop-i-init : goal.loop-i-init
loop-i-init c = record {
  passed = nothing_passed c.args.types.now.types (sites_of c.args.types.now.types c.args.types.now.places) c.args.stands.now (is_had c.args.reserved.now c.args.met.now.ids) (contains_text c.args.met.now.texts)
      (had_reserved c.args.reserved.now c.args.met.now.ids c.requires.reserved c.requires.no_ids) c.requires.no_texts;
  first = none_below _;
}

pub loop-i-preserved : goal.loop-i-preserved
loop-i-preserved c = record {
  passed = passed_more c.args.types.now.types c.args.types.now.places c.requires.in_order c.args.stands.now c.requires.order c.loop-i.i c.site_of-site.ensures.stand (site_view c.site_of-site.result) c.site_of-site.ensures.there c.site_of-site.ensures.at
      (is_had c.args.reserved.now c.loop-i.met.ids) (contains_text c.loop-i.met.texts) c.loop-i.invariant.passed (get_by_text c.args.table.now) c.requires.table c.name_is_path.ensures (is_had c.args.reserved.now c.meet.new.met.ids) c.in_ok-told.told c.in_ok-told.ensures.told
      (contains_text c.meet.new.met.texts) c.in_ok-told.ensures.texts;
  first = one_more_as (TakenAt c.args.types.now.types (sites_of c.args.types.now.types c.args.types.now.places) c.args.stands.now) c.loop-i.i c.loop-i.first c.in_ok-refuse_at.field-0 c.earlier-first.result c.earlier-first.ensures c.loop-i.invariant.first
      (step_taken c.args.types.now.types c.args.types.now.places c.requires.in_order c.args.stands.now c.requires.order c.loop-i.i c.site_of-site.ensures.stand (site_view c.site_of-site.result) c.site_of-site.ensures.there c.site_of-site.ensures.at
      (is_had c.args.reserved.now c.loop-i.met.ids) (contains_text c.loop-i.met.texts) c.loop-i.invariant.passed (get_by_text c.args.table.now) c.requires.table c.name_is_path.ensures (is_had c.args.reserved.now c.meet.new.met.ids) c.in_ok-told.told c.in_ok-told.ensures.told
      c.in_ok-refuse_at.field-0 c.in_ok-refuse_at.ensures);
}

pub returns : goal.returns
returns c = all_taken c.args.types.now.types c.args.types.now.places c.requires.in_order c.args.stands.now c.requires.order c.loop-i.first (finished _ c.loop-i.i _ c.loop-i.first c.loop-i.invariant.first (omega arith))

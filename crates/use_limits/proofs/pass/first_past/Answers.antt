use Rattle.std.proofs.Common.{sum_by, take, refl, sym, ap, ◌∙◌, arith}
use Rattle.ranked.proofs.FirstLaws.{none_below, one_more_as, finished}
use Rattle.placed_sites.specs.Views.{site_view}
use Rattle.wr_rules.specs.Sites.{sites_of}
use Rattle.wr_rules.specs.Limits.{words_in, bytes_in, IsManyUses}
use Rattle.place_order.specs.Stands.{count_at}
use Rattle.set_limits.specs.Counts.{capped}
use Rattle.set_limits.specs.Pass.{AtOrder}
use Rattle.set_limits.proofs.PassLaws.{counted_more, all_in_order}
use Rattle.use_limits.proofs.PastLaws.{step_past}
use Rattle.use_limits.proofs.pass.first_past.Goals as goal

pub loop-i-init : goal.loop-i-init
loop-i-init c = record { words = refl; bytes = refl; first = none_below _ }

pub loop-i-preserved : goal.loop-i-preserved
loop-i-preserved c =
    let words = c.in_ok-next.ensures.words (sum_by (count_at words_in (sites_of c.args.types.now.types c.args.types.now.places)) (take c.loop-i.i c.args.stands.now)) c.loop-i.invariant.words in
    let bytes = c.in_ok-next.ensures.bytes (sum_by (count_at bytes_in (sites_of c.args.types.now.types c.args.types.now.places)) (take c.loop-i.i c.args.stands.now)) c.loop-i.invariant.bytes in
    record {
      words = words ∙ ap capped (sym (counted_more (sites_of c.args.types.now.types c.args.types.now.places) c.args.stands.now c.requires words_in c.loop-i.i (site_view c.site_of-site.result) c.site_of-site.ensures));
      bytes = bytes ∙ ap capped (sym (counted_more (sites_of c.args.types.now.types c.args.types.now.places) c.args.stands.now c.requires bytes_in c.loop-i.i (site_view c.site_of-site.result) c.site_of-site.ensures));
      first = one_more_as (AtOrder (sites_of c.args.types.now.types c.args.types.now.places) c.args.stands.now IsManyUses) c.loop-i.i c.loop-i.first c.in_ok-past_at.field-0 c.earlier-first.result c.earlier-first.ensures c.loop-i.invariant.first
          (step_past (sites_of c.args.types.now.types c.args.types.now.places) c.args.stands.now c.requires c.loop-i.i (site_view c.site_of-site.result) c.site_of-site.ensures c.loop-i.totals.words c.loop-i.totals.bytes c.in_ok-next.next.words c.in_ok-next.next.bytes c.in_ok-past_at.field-0
          c.loop-i.invariant.words c.loop-i.invariant.bytes words bytes c.in_ok-past_at.ensures);
    }

pub returns : goal.returns
returns c = all_in_order (sites_of c.args.types.now.types c.args.types.now.places) c.args.stands.now c.requires IsManyUses c.loop-i.first (finished _ c.loop-i.i _ c.loop-i.first c.loop-i.invariant.first (omega arith))

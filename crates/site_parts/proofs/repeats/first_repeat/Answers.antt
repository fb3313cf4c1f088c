use Rattle.std.proofs.Common.{refl}
use Rattle.std.specs.BTreeSet.{contains_text}
use Rattle.ranked.proofs.RepeatLaws.{seen_more, repeat_more}
use Rattle.wr_rules.specs.Sites.{broken_at}
use Rattle.site_parts.proofs.repeats.first_repeat.Goals as goal

pub loop-item-preserved : goal.loop-item-preserved
loop-item-preserved g c =
    let key = g.R.Repeats.key c.args.rule.now in
    let m = c.in_ok-refuse_met.ensures.2 in
    record {
      first = repeat_more key (λ x. broken_at c.args.code (g.R.Repeats.spot c.args.rule.now x)) c.args.items.now c.loop-item.item-index c.item-item.result (key c.item-item.result)
          (contains_text c.loop-item.met) c.in_ok-refuse_met.ensures.0 c.loop-item.first c.in_ok-refuse_met.field-0 c.earlier-first.result c.loop-item-test.true c.item-item.is refl
          c.loop-item.invariant.told m.fresh c.in_ok-refuse_met.ensures.1 c.earlier-first.ensures c.loop-item.invariant.first;
      told = seen_more key c.args.items.now c.loop-item.item-index c.item-item.result (key c.item-item.result)
          (contains_text c.loop-item.met) (contains_text c.refuse_met.new.met) c.loop-item-test.true c.item-item.is refl m.met c.loop-item.invariant.told;
    }

use Rattle.std.proofs.Common.{rules, refl, not, Some, None, cond, ap, sym, ◌∙◌}
use Rattle.std.specs.HashSet.{contains_text}
use Rattle.ranked.proofs.RepeatLaws.{seen_more, repeat_more}
use Rattle.midl_names.specs.Duplicates.{lower_name, duplicate_entry}
use Rattle.midl_names.specs.Views.{item_of}
use Rattle.midl_names.proofs.Firsts.{viewed_repeats, not_not}
use Rattle.midl_names.proofs.duplicates.repeated_names.Goals as goal

pub loop-item-preserved : goal.loop-item-preserved
loop-item-preserved c =
    let name = lower_name (item_of c.item-item.result) in
    let had = contains_text c.loop-item.seen in
    record {
      first = repeat_more (λ x. lower_name (item_of x)) (λ x. duplicate_entry (item_of x)) c.args.items.now c.loop-item.item-index c.item-item.result name had
          (not (had name)) c.loop-item.first c.in_ok-again.again c.earlier-first.result (search rules) c.item-item.is refl
          c.loop-item.invariant.told refl
          (c.in_ok-again.ensures.again ∙ ap (λ b. cond b (Some (duplicate_entry (item_of c.item-item.result))) None) (sym (not_not (had name))))
          c.earlier-first.ensures c.loop-item.invariant.first;
      told = seen_more (λ x. lower_name (item_of x)) c.args.items.now c.loop-item.item-index c.item-item.result name
          had (contains_text c.seen_again.new.seen) (search rules) c.item-item.is refl
          c.in_ok-again.ensures.seen
          c.loop-item.invariant.told;
    }

pub returns : goal.returns
returns c = viewed_repeats item_of c.args.items.now lower_name duplicate_entry c.loop-item.item-index c.loop-item.first c.loop-item.invariant.first (search rules)

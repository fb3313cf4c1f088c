use Rattle.std.proofs.Common.{rules, arith, refl, not, Some, None, cond, ap, sym, subst, ◌∙◌}
use Rattle.std.specs.BTreeSet.{contains_text}
use Rattle.ranked.specs.First.{IsFirst}
use Rattle.ranked.specs.Repeats.{Repeated}
use Rattle.ranked.proofs.RepeatLaws.{seen_more, repeat_more}
use Rattle.midl_tree.specs.Views.{attribute_view}
use Rattle.midl_names.specs.Attributes.{called, attribute_entry}
use Rattle.midl_names.specs.Views.{item_of, attributes_of}
use Rattle.midl_names.proofs.Firsts.{viewed_repeats, not_not}
use Rattle.midl_names.proofs.attributes.repeated.Goals as goal

pub loop-attribute-preserved : goal.loop-attribute-preserved
loop-attribute-preserved c =
    let name = called (attribute_view c.attribute-item.result.now) in
    let had = contains_text c.loop-attribute.seen in
    record {
      first = repeat_more (λ x. called (attribute_view x.now)) (λ x. attribute_entry (item_of c.args.item.now) (attribute_view x.now)) c.deref-attribute-items.result.now c.loop-attribute.attribute-index c.attribute-item.result name had
          (not (had name)) c.loop-attribute.first c.in_ok-again.again c.earlier-first.result (search rules) c.attribute-item.is refl
          c.loop-attribute.invariant.told refl
          (c.in_ok-again.ensures.again ∙ ap (λ b. cond b (Some (attribute_entry (item_of c.args.item.now) (attribute_view c.attribute-item.result.now))) None) (sym (not_not (had name))))
          c.earlier-first.ensures c.loop-attribute.invariant.first;
      told = seen_more (λ x. called (attribute_view x.now)) c.deref-attribute-items.result.now c.loop-attribute.attribute-index c.attribute-item.result name
          had (contains_text c.seen_again.new.seen) (search rules) c.attribute-item.is refl
          c.in_ok-again.ensures.seen
          c.loop-attribute.invariant.told;
    }

pub returns : goal.returns
returns c =
    subst (λ xs. IsFirst (Repeated called (attribute_entry (item_of c.args.item.now)) (attributes_of xs)) c.loop-attribute.first)
    c.deref-attribute-items.ensures.value
    (viewed_repeats (λ x. attribute_view x.now) c.deref-attribute-items.result.now called (attribute_entry (item_of c.args.item.now)) c.loop-attribute.attribute-index c.loop-attribute.first c.loop-attribute.invariant.first (omega arith))

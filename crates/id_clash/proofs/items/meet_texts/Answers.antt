use Rattle.std.proofs.Common.{List, ℕ, Some, ap, subst, sym, arith, ◌∙◌}
use Rattle.std.specs.HashMap.{get_by_text}
use Rattle.std.specs.HashSet.{contains_text}
use Rattle.id_clash.specs.Items.{Meets, Fresh, AddsTexts, is_had, texts_in}
use Rattle.id_clash.proofs.ItemLaws.{fresh_none, adds_no, fresh_more, adds_more, text_at, whole_texts}
use Rattle.id_clash.proofs.items.meet_texts.Goals as goal

pub loop-text-init : goal.loop-text-init
loop-text-init c = record {
  told = fresh_none (contains_text c.args.met.now.texts) (get_by_text c.args.table.now) (texts_in c.args.texts.now) (is_had c.args.reserved.now c.args.met.now.ids);
  texts = adds_no (contains_text c.args.met.now.texts) (texts_in c.args.texts.now);
}

pub loop-text-preserved : goal.loop-text-preserved
loop-text-preserved c =
    let at = text_at c.args.texts.now c.loop-text.text-index c.text-item.result (omega arith) c.text-item.is ∙ ap (λ (t : List ℕ). Some t) (sym c.as_str.ensures.value) in
    record {
      told = fresh_more (contains_text c.args.met.now.texts) (contains_text c.loop-text.met.texts) (get_by_text c.args.table.now) (texts_in c.args.texts.now) c.loop-text.text-index c.as_str.result.now at c.loop-text.invariant.texts
          (is_had c.args.reserved.now c.args.met.now.ids) (is_had c.args.reserved.now c.loop-text.met.ids) (is_had c.args.reserved.now c.meet_text.new.met.ids) c.loop-text.told c.in_ok-other.other c.either-told.result c.loop-text.invariant.told c.in_ok-other.ensures.told c.either-told.ensures;
      texts = adds_more (contains_text c.args.met.now.texts) (contains_text c.loop-text.met.texts) (get_by_text c.args.table.now) (texts_in c.args.texts.now) c.loop-text.text-index c.as_str.result.now at c.loop-text.invariant.texts (contains_text c.meet_text.new.met.texts) c.in_ok-other.ensures.texts;
    }

pub returns : goal.returns
returns c =
    let whole = whole_texts c.args.texts.now c.loop-text.text-index (omega arith) in
    record {
      told = subst (λ (xs : List (List ℕ)). Meets (Fresh (contains_text c.args.met.now.texts) (get_by_text c.args.table.now) xs) (is_had c.args.reserved.now c.args.met.now.ids) (is_had c.args.reserved.now c.loop-text.met.ids) c.loop-text.told) whole c.loop-text.invariant.told;
      texts = subst (λ (xs : List (List ℕ)). AddsTexts xs (contains_text c.args.met.now.texts) (contains_text c.loop-text.met.texts)) whole c.loop-text.invariant.texts;
    }

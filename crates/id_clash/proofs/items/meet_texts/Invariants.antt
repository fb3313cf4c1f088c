use Rattle.std.proofs.Common.{take}
use Rattle.std.specs.HashMap.{get_by_text}
use Rattle.std.specs.HashSet.{contains_text}
use Rattle.id_clash.specs.Items.{Meets, Fresh, AddsTexts, is_had, texts_in}
use Rattle.id_clash.proofs.items.meet_texts.Given as goal

abbrev pub invariant-loop-text : goal.invariant-loop-text
invariant-loop-text l = record {
  told : Meets (Fresh (contains_text l.initial.met.texts) (get_by_text l.table) (take l.text-index (texts_in l.texts))) (is_had l.reserved l.initial.met.ids) (is_had l.reserved l.met.ids) l.told;
  texts : AddsTexts (take l.text-index (texts_in l.texts)) (contains_text l.initial.met.texts) (contains_text l.met.texts);
}

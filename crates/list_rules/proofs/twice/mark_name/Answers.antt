use Rattle.std.proofs.Common.{◌≡◌, ◌||◌, ℕ, List, true, cond, ap, ◌∙◌, string_bytes}
use Rattle.std.specs.Str.{bytes_eq}
use Rattle.std.specs.String.{string_cmp}
use Rattle.std.specs.BTreeSet.{Updates, contains_text}
use Rattle.std.proofs.lemmas.Map.Text.{btree_set_updates_text}
use Rattle.numbered.proofs.Puts.{on_ok_then}
use Rattle.list_rules.proofs.TwiceLaws.{cond_or}
use Rattle.list_rules.proofs.twice.mark_name.Goals as goal

pub returns : goal.returns
returns c =
    on_ok_then (Updates string_cmp c.args.texts.now c.mark.new.texts c.in_ok-text.text true) ((q : List ℕ) → contains_text c.mark.new.texts q ≡ (contains_text c.args.texts.now q || bytes_eq c.args.name.now q))
    (λ u q. btree_set_updates_text (string_bytes c.in_ok-text.text) c.args.texts.now c.mark.new.texts true u q
    ∙ ap (λ (t : List ℕ). cond (bytes_eq t q) true (contains_text c.args.texts.now q)) (c.in_ok-text.ensures.ok ∙ c.as_str.ensures.value)
    ∙ cond_or (bytes_eq c.args.name.now q) (contains_text c.args.texts.now q)) c.mark.result c.mark.ensures

use Rattle.std.proofs.Common.{◌++◌, ◌∷◌, [], ℕ, List, true, cond, sym, ap, ◌∙◌, string_bytes}
use Rattle.std.specs.Str.{bytes_eq}
use Rattle.std.specs.HashSet.{contains_text}
use Rattle.std.proofs.lemmas.Map.Text.{hash_set_updates_text}
use Rattle.wr_base.specs.declared.type_use.TypeUse.{TypeUse}
use Rattle.closed_lists.specs.Closing.{has}
use Rattle.closed_lists.proofs.Meetings.{meets_known, meets_new}
use Rattle.closed_lists.proofs.closing.meet.Goals as goal

pub returns-then-knows : goal.returns-then-knows
returns-then-knows c =
    meets_known c.args.gathered.now c.args.ty.now (ap (has c.args.gathered.now) (sym c.in_ok-text.ensures ∙ sym c.as_str.ensures.value) ∙ sym c.knows.ensures ∙ c.if-knows.true)

pub returns : goal.returns
returns c =
    meets_new c.args.gathered.now (record { uses = c.push.new.self; texts = c.mark.new.texts }) c.args.ty.now
    (ap (has c.args.gathered.now) (sym c.in_ok-text.ensures ∙ sym c.as_str.ensures.value) ∙ sym c.knows.ensures ∙ c.if-knows.false)
    (λ q. hash_set_updates_text (string_bytes c.in_ok-text.text) c.args.gathered.now.texts c.mark.new.texts true c.in_ok-mark.ensures q
    ∙ ap (λ (t : List ℕ). cond (bytes_eq t q) true (contains_text c.args.gathered.now.texts q)) c.in_ok-text.ensures)
    (c.in_ok-push.ensures.items ∙ ap (λ (u : TypeUse). c.args.gathered.now.uses.items ++ u ∷ []) c.in_ok-clone.ensures.cases)

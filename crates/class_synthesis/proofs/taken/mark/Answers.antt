use Rattle.std.proofs.Common.{string_bytes, true, ap, ◌∙◌}
use Rattle.wr_base.specs.Lower.{lower}
use Rattle.std.proofs.lemmas.Map.Text.{hash_set_updates_text}
use Rattle.class_synthesis.proofs.TakenLaws.{adds_one, on_ok_then}
use Rattle.class_synthesis.proofs.taken.mark.Goals as goal

pub returns : goal.returns
returns c =
    on_ok_then c.put.result _ _ (λ u. adds_one (string_bytes c.in_ok-text.text) c.args.name.now c.args.taken.now c.put.new.taken (c.in_ok-text.ensures ∙ ap lower c.as_str.ensures.value)
    (hash_set_updates_text (string_bytes c.in_ok-text.text) c.args.taken.now c.put.new.taken true u)) c.put.ensures

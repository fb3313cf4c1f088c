use Rattle.std.proofs.Common.{true, ◌∙◌, string_bytes}
use Rattle.std.specs.Str.{bytes_eq}
use Rattle.std.specs.HashSet.{contains_text}
use Rattle.std.proofs.lemmas.Map.Text.{hash_set_updates_text}
use Rattle.namespace_rules.proofs.SpaceLaws.{on_ok_then, cond_or}
use Rattle.namespace_rules.proofs.spaces.add_own.Goals as goal

pub returns : goal.returns
returns c =
    on_ok_then c.put.result _ _
    (λ u q. hash_set_updates_text (string_bytes c.args.text) c.args.set.now c.put.new.set true u q ∙ cond_or (bytes_eq (string_bytes c.args.text) q) (contains_text c.args.set.now q)) c.put.ensures

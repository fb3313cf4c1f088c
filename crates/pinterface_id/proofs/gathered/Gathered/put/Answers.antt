use Rattle.std.proofs.Common.{◌++◌, ◌∷◌, [], ℕ, List, true, cond, ap, ◌∙◌, string_bytes}
use Rattle.std.specs.Str.{bytes_eq}
use Rattle.std.specs.HashSet.{contains_text}
use Rattle.std.proofs.lemmas.Map.Text.{hash_set_updates_text}
use Rattle.pinterface_id.proofs.Gatherings.{gathers_put}
use Rattle.pinterface_id.proofs.gathered.Gathered.put.Goals as goal

pub returns : goal.returns
returns c =
    gathers_put c.args.self.now (record { list = c.push.new.self; known = c.mark.new.known }) c.args.text.now c.args.id
    (λ q. hash_set_updates_text (string_bytes c.in_ok-from_str.field-0) c.args.self.now.known c.mark.new.known true c.in_ok-mark.ensures q
    ∙ ap (λ (t : List ℕ). cond (bytes_eq t q) true (contains_text c.args.self.now.known q)) c.in_ok-from_str.ensures.ok)
    (c.in_ok-push.ensures.items ∙ ap (λ (t : List ℕ). c.args.self.now.list.items ++ record { text = t; id = c.args.id } ∷ []) (c.new.ensures ∙ c.in_ok-from_str-2.ensures.ok))

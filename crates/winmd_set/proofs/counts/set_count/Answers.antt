use Rattle.std.proofs.Common.{◌≡◌, ℕ, List, Option, Some, Bool, true, false, cond, string_bytes, ap, ◌∙◌, refl}
use Rattle.std.specs.HashMap.{get_by_text}
use Rattle.std.specs.Map.{update}
use Rattle.std.specs.Option.{unwrap_or}
use Rattle.std.specs.Str.{bytes_eq}
use Rattle.std.proofs.lemmas.Map.Text.{hash_map_updates_text}
use Rattle.winmd_set.proofs.counts.set_count.Goals as goal

unwrapped : (b : Bool) (n : ℕ) (o : Option ℕ) → unwrap_or (cond b (Some n) o) 0 ≡ cond b n (unwrap_or o 0)
unwrapped true n o = refl
unwrapped false n o = refl

noted_by : (own : List ℕ) (n : ℕ) (old new : List ℕ → Option ℕ) → ((name : List ℕ) → new name ≡ update bytes_eq old own (Some n) name)
    → (name : List ℕ) → unwrap_or (new name) 0 ≡ cond (bytes_eq own name) n (unwrap_or (old name) 0)
noted_by own n old new step name = ap (λ o. unwrap_or o 0) (step name) ∙ unwrapped (bytes_eq own name) n (old name)

pub returns : goal.returns
returns c =
    noted_by (string_bytes c.args.text) c.args.count (get_by_text c.args.counts.now) (get_by_text c.insert.new.self)
    (hash_map_updates_text (string_bytes c.args.text) c.args.counts.now c.insert.new.self (Some c.args.count) c.in_ok-insert.ensures.updates)

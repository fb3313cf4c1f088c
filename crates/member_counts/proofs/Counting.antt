-- Counts of texts, one by one.
use Rattle.std.proofs.Common.{◌≡◌, ℕ, ◌+◌, ◌<◌, ◌≤◌, Bool, true, false, cond, List, Option, Some, take, get_or, length, count_by, refl, sym, ap, ◌∙◌, arith, length-take-le}
use Rattle.std.specs.Option.{unwrap_or}
use Rattle.std.specs.Map.{update}
use Rattle.std.specs.Str.{bytes_eq}
use Rattle.std.proofs.lemmas.List.Sums.{count_by_more_yes, count_by_more_no, count_by-le-length}

unwrapped : (b : Bool) (n : ℕ) (o : Option ℕ) → unwrap_or (cond b (Some n) o) 0 ≡ cond b n (unwrap_or o 0)
unwrapped true n o = refl
unwrapped false n o = refl

pub noted_by : (own : List ℕ) (n : ℕ) (old new : List ℕ → Option ℕ) → ((name : List ℕ) → new name ≡ update bytes_eq old own (Some n) name)
    → (name : List ℕ) → unwrap_or (new name) 0 ≡ cond (bytes_eq own name) n (unwrap_or (old name) 0)
noted_by own n old new step name = ap (λ o. unwrap_or o 0) (step name) ∙ unwrapped (bytes_eq own name) n (old name)

module _ {X : Type 0} (p : X → Bool) (xs : List X) (i : ℕ) where
  -- one more of the first ones is counted or not
  pub counted_more : (x : X) → i < length xs → x ≡ get_or xs i x → count_by p (take (i + 1) xs) ≡ count_by p (take i xs) + cond (p x) 1 0
  counted_more x l e = elim (p x) as (λ b. p x ≡ b → count_by p (take (i + 1) xs) ≡ count_by p (take i xs) + cond b 1 0) [
    | true ↦ λ t. count_by_more_yes p xs i x l (ap p (sym e) ∙ t)
    | false ↦ λ t. (let h = count_by_more_no p xs i x l (ap p (sym e) ∙ t) in omega (arith, h))
  ] refl

  -- a count is at most the number of those that were looked at
  pub few : i ≤ length xs → count_by p (take i xs) ≤ i
  few l = omega (arith, count_by-le-length p (take i xs), length-take-le i xs l)

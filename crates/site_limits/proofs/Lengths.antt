-- A name that isn't short is long.
use Rattle.std.proofs.Common.{◌≡◌, ℕ, Bool, true, false, not, ⊎_elim, ◌&&◌, ◌||◌, List, [], ◌∷◌, length, nat_lt, nat_le, refl, sym, ap, ◌∙◌, arith}
use Rattle.std.specs.List.{list_any, list_all}
use Rattle.std.proofs.lemmas.Bool.Decides.{leb_tells, Decides-ltb}
use Rattle.wr_base.specs.Paths.{is_short_part, is_short_name, parts_of}
use Rattle.wr_rules.specs.Limits.{is_long_name}

no_truth : (b : Bool) → (b ≡ true → ⊥) → b ≡ false
no_truth false n = refl
no_truth true n = absurd (n refl)

above : (m n : ℕ) → not (nat_le m n) ≡ nat_lt n m
above m n = ⊎_elim
    (λ h. ap not h.0 ∙ sym (no_truth (nat_lt n m) (λ t. (let low = (Decides-ltb n m).0 t in let high = h.1 in omega (arith, low, high)))))
    (λ h. ap not h.0 ∙ sym ((Decides-ltb n m).1 h.1)) (leb_tells m n)

not_both : (a b : Bool) → not (a && b) ≡ (not a || not b)
not_both true b = refl
not_both false b = refl

long_part : (parts : List (List ℕ)) → not (list_all is_short_part parts) ≡ list_any (λ part. nat_lt 255 (length part)) parts
long_part [] = refl
long_part (p ∷ ps) = not_both (is_short_part p) (list_all is_short_part ps) ∙ ap (λ b. b || not (list_all is_short_part ps)) (above (length p) 255) ∙ ap (λ b. nat_lt 255 (length p) || b) (long_part ps)

pub short_or_long : (name : List ℕ) → not (is_short_name name) ≡ is_long_name name
short_or_long name =
    not_both (nat_le (length name) 511) (list_all is_short_part (parts_of name)) ∙ ap (λ b. b || not (list_all is_short_part (parts_of name))) (above (length name) 511)
    ∙ ap (λ b. nat_lt 511 (length name) || b) (long_part (parts_of name))

-- Counts by a test whose two texts are turned round.
use Rattle.std.proofs.Common.{◌≡◌, ℕ, ◌+◌, Bool, true, false, cond, List, [], ◌∷◌, count_by, refl, sym, ap, ◌∙◌}
use Rattle.std.specs.Str.{bytes_eq}
use Rattle.std.specs.Cmp.Lexicographic.{bytes_decides}
use Rattle.std.proofs.lemmas.List.Sums.{sum_by-cons}

one_way : (p q : Bool) → (p ≡ true → q ≡ true) → (q ≡ true → p ≡ true) → p ≡ q
one_way true q f g = sym (f refl)
one_way false true f g = g refl
one_way false false f g = refl

pub turned : (a b : List ℕ) → bytes_eq a b ≡ bytes_eq b a
turned a b = one_way (bytes_eq a b) (bytes_eq b a) (λ e. (bytes_decides b a).1 (sym ((bytes_decides a b).0 e))) (λ e. (bytes_decides a b).1 (sym ((bytes_decides b a).0 e)))

-- equal tests count alike
pub alike : {X : Type 0} (p q : X → Bool) → ((x : X) → p x ≡ q x) → (xs : List X) → count_by p xs ≡ count_by q xs
alike p q e [] = refl
alike p q e (x ∷ xs) =
    sum_by-cons (λ y. cond (p y) 1 0) x xs ∙ ap (λ b. cond b 1 0 + count_by p xs) (e x) ∙ ap (λ n. cond (q x) 1 0 + n) (alike p q e xs) ∙ sym (sum_by-cons (λ y. cond (q y) 1 0) x xs)

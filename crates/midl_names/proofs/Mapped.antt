-- Two maps over the first elements of a list, one more at a time.
use Rattle.std.proofs.Common.{◌≡◌, ℕ, ◌+◌, ◌<◌, List, [], ◌∷◌, ◌++◌, length, map, take, get_or, append_assoc, sym, ap, ◌∙◌}
use Rattle.std.proofs.lemmas.List.{take_more, map-append}

pub mapped_more : {A B C : Type 0} (f : B → C) (g : A → B) (xs : List A) (i : ℕ) (x : A) (old new : List C) (y : C) → i < length xs → x ≡ get_or xs i x
    → old ≡ map f (map g (take i xs)) → y ≡ f (g x) → new ≡ old ++ y ∷ [] → new ≡ map f (map g (take (i + 1) xs))
mapped_more f g xs i x old new y l is so value more =
    more
    ∙ ap (λ t. t ++ y ∷ []) so
    ∙ ap (λ z. map f (map g (take i xs)) ++ z ∷ []) value
    ∙ sym (map-append f (map g (take i xs)) (g x ∷ []))
    ∙ ap (map f) (sym (map-append g (take i xs) (x ∷ [])))
    ∙ ap (λ z. map f (map g (take i xs ++ z ∷ []))) is
    ∙ ap (λ t. map f (map g t)) (sym (take_more xs i x l))

-- one more behind a list
pub grown : {A B : Type 0} (f : A → B) (xs : List A) (i : ℕ) (x : A) (base old new : List B) → i < length xs → x ≡ get_or xs i x
    → old ≡ base ++ map f (take i xs) → new ≡ old ++ f x ∷ [] → new ≡ base ++ map f (take (i + 1) xs)
grown f xs i x base old new l is so more =
    more
    ∙ ap (λ t. t ++ f x ∷ []) so
    ∙ append_assoc base (map f (take i xs)) (f x ∷ [])
    ∙ ap (λ t. base ++ t) (sym (map-append f (take i xs) (x ∷ [])) ∙ ap (λ z. map f (take i xs ++ z ∷ [])) is ∙ ap (map f) (sym (take_more xs i x l)))

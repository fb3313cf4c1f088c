-- Lists that are put behind others, element by element.
use Rattle.std.proofs.Common.{◌≡◌, ◌+◌, ◌<◌, ℕ, List, [], ◌∷◌, ◌++◌, map, take, length, get_or, refl, sym, ap, ◌∙◌}
use Rattle.std.specs.List.{flat_map}
use Rattle.std.proofs.lemmas.List.{take_more, map-append, append_assoc}
use Rattle.std.proofs.lemmas.Grind.{flat_map-append}
use Rattle.std.proofs.lemmas.List.Concat.{flat_map-cons}

module _ {X Y : Type 0} (base old new : List Y) (xs : List X) (i : ℕ) (x : X) (l : i < length xs) (e : x ≡ get_or xs i x) where
  further : take (i + 1) xs ≡ take i xs ++ x ∷ []
  further = take_more xs i x l ∙ ap (λ (y : X). take i xs ++ y ∷ []) (sym e)

  pub mapped_more : (f : X → Y) → new ≡ old ++ f x ∷ [] → old ≡ base ++ map f (take i xs) → new ≡ base ++ map f (take (i + 1) xs)
  mapped_more f step so =
      step ∙ ap (λ (ys : List Y). ys ++ f x ∷ []) so ∙ append_assoc base (map f (take i xs)) (f x ∷ [])
      ∙ ap (λ (ys : List Y). base ++ ys) (sym (map-append f (take i xs) (x ∷ [])) ∙ ap (map f) (sym further))

  pub flat_more : (f : X → List Y) → new ≡ old ++ f x → old ≡ base ++ flat_map f (take i xs) → new ≡ base ++ flat_map f (take (i + 1) xs)
  flat_more f step so =
      step ∙ ap (λ (ys : List Y). ys ++ f x) so ∙ append_assoc base (flat_map f (take i xs)) (f x)
      ∙ ap (λ (ys : List Y). base ++ ys)
      (ap (λ (ys : List Y). flat_map f (take i xs) ++ ys) (sym (flat_map-cons f x [] ∙ append_nil (f x))) ∙ sym (flat_map-append f (take i xs) (x ∷ [])) ∙ ap (flat_map f) (sym further))
    where
      append_nil : (ys : List Y) → ys ++ [] ≡ ys
      append_nil [] = refl
      append_nil (y ∷ ys) = ap (λ (zs : List Y). y ∷ zs) (append_nil ys)

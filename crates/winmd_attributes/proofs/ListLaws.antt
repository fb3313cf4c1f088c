-- Lists that are passed over, one item more at each turn.
use Rattle.std.proofs.Common.{◌≡◌, ◌+◌, ◌<◌, ◌||◌, ℕ, Bool, true, false, cond, List, [], ◌∷◌, ◌++◌, map, take, length, get_or, refl, sym, ap, ◌∙◌}
use Rattle.std.specs.List.{filter, list_any}
use Rattle.std.proofs.lemmas.List.{map-append, take_more}
use Rattle.std.proofs.lemmas.List.Folds.{list_any-append}

filter-append : {A : Type 0} (p : A → Bool) (xs ys : List A) → filter p (xs ++ ys) ≡ filter p xs ++ filter p ys
filter-append p [] ys = refl
filter-append p (x ∷ xs) ys = rw (filter-append p xs ys) (elim (p x) as (λ v. cond v (x ∷ (filter p xs ++ filter p ys)) (filter p xs ++ filter p ys) ≡ cond v (x ∷ filter p xs) (filter p xs) ++ filter p ys) [ true ↦ refl | false ↦ refl ])

or_false : (a : Bool) → (a || false) ≡ a
or_false true = refl
or_false false = refl

module _ {X B : Type 0} (p : B → Bool) (view : X → B) (xs : List X) (i : ℕ) (d : X) (within : i < length xs) where
  one_more : map view (take (i + 1) xs) ≡ map view (take i xs) ++ view (get_or xs i d) ∷ []
  one_more = ap (map view) (take_more xs i d within) ∙ map-append view (take i xs) (get_or xs i d ∷ [])

  pub any_more : (found new b : Bool) → found ≡ list_any p (map view (take i xs)) → b ≡ p (view (get_or xs i d)) → new ≡ (found || b) → new ≡ list_any p (map view (take (i + 1) xs))
  any_more found new b so_far is e =
      e ∙ ap (λ a. a || b) so_far ∙ ap (λ a. list_any p (map view (take i xs)) || a) is
      ∙ sym (ap (list_any p) one_more ∙ list_any-append p (map view (take i xs)) (view (get_or xs i d) ∷ []) ∙ ap (λ b. list_any p (map view (take i xs)) || b) (or_false (p (view (get_or xs i d)))))

  put_view : (items new : List X) (b : Bool) → new ≡ items ++ cond b (get_or xs i d ∷ []) [] → map view new ≡ map view items ++ cond b (view (get_or xs i d) ∷ []) []
  put_view items new true e = ap (map view) e ∙ map-append view items (get_or xs i d ∷ [])
  put_view items new false e = ap (map view) e ∙ map-append view items []

  pub filter_more : (items new : List X) (b : Bool) → map view items ≡ filter p (map view (take i xs)) → b ≡ p (view (get_or xs i d)) → new ≡ items ++ cond b (get_or xs i d ∷ []) [] → map view new ≡ filter p (map view (take (i + 1) xs))
  filter_more items new b so_far is e =
      put_view items new b e ∙ ap (λ front. front ++ cond b (view (get_or xs i d) ∷ []) []) so_far ∙ ap (λ a. filter p (map view (take i xs)) ++ cond a (view (get_or xs i d) ∷ []) []) is
      ∙ sym (ap (filter p) one_more ∙ filter-append p (map view (take i xs)) (view (get_or xs i d) ∷ []))

-- A stable sort by a number is the sort that inserts one by one.
use Rattle.std.proofs.Common.{◌≡◌, ℕ, zero, suc, ◌<◌, ◌≤◌, Bool, true, false, leb, List, [], ◌∷◌, length, map, get_or, filter, nat_cmp, is_lt, refl, sym, ap, ◌∙◌, arith, inl, inr, zero-le, suc-le-suc}
use Rattle.std.specs.List.{AllByRecursion, list_all}
use Rattle.std.specs.List.Sorted.{IsNonDecreasingBy, IsStableByKey, ties}
use Rattle.std.proofs.lemmas.Bool.{and_parts, cond-true, cond-false, cases_Bool, leb-true, leb-false}
use Rattle.std.proofs.lemmas.Bool.Decides.{nat_tests}
use Rattle.winmd_lines.specs.Orders.{insert_by, sort_by}
use Rattle.winmd_lines.proofs.SortLaws.{Ascending, sorted_keeps}

ties_at : (m n : ℕ) → (ties (λ x y. is_lt (nat_cmp x y)) m n ≡ true → m ≡ n) × (m ≡ n → ties (λ x y. is_lt (nat_cmp x y)) m n ≡ true)
ties_at m n = (λ h. grind (arith, nat_tests), λ h. grind (arith, nat_tests))

module _ {A : Type 0} (key : A → ℕ) where
  abbrev same_key : A → A → Bool
  same_key = ties (λ x y. is_lt (nat_cmp (key x) (key y)))

  same_is : (x y : A) → same_key x y ≡ true → key x ≡ key y
  same_is x y = (ties_at (key x) (key y)).0

  same_from : (x y : A) → key x ≡ key y → same_key x y ≡ true
  same_from x y = (ties_at (key x) (key y)).1

  kept : (p : A → Bool) (y : A) (ys : List A) → p y ≡ true → filter p (y ∷ ys) ≡ y ∷ filter p ys
  kept p y ys h = cond-true _ _ _ h

  dropped : (p : A → Bool) (y : A) (ys : List A) → p y ≡ false → filter p (y ∷ ys) ≡ filter p ys
  dropped p y ys h = cond-false _ _ _ h

  abbrev AtLeast : ℕ → List A → Type 0
  AtLeast n xs = AllByRecursion (λ y. n ≤ key y) xs

  at_least_more : (n m : ℕ) (ys : List A) → n ≤ m → AtLeast m ys → AtLeast n ys
  at_least_more n m [] le h = tt
  at_least_more n m (y ∷ ys) le h = (omega (arith, le, h.0), at_least_more n m ys le h.1)

  at_least_at : (n : ℕ) (ys : List A) → ((j : ℕ) (d : A) → j < length ys → n ≤ key (get_or ys j d)) → AtLeast n ys
  at_least_at n [] h = tt
  at_least_at n (y ∷ ys) h = (h zero y (suc-le-suc zero-le), at_least_at n ys (λ j d lt. h (suc j) d (suc-le-suc lt)))

  ascends : (ys : List A) → IsNonDecreasingBy key ys → Ascending key ys
  ascends [] h = tt
  ascends (y ∷ ys) h = (
    at_least_at (key y) ys (λ j d lt. h zero (suc j) d zero-le (suc-le-suc lt)),
    ascends ys (λ i j d le lt. h (suc i) (suc j) d (suc-le-suc le) (suc-le-suc lt)),
  )

  -- one more, put where it belongs
  at_least_with : (n : ℕ) (x : A) (ys : List A) → n ≤ key x → AtLeast n ys → AtLeast n (insert_by key x ys)
  at_least_with n x [] le h = (le, tt)
  at_least_with n x (y ∷ ys) le h =
      elim (cases_Bool (leb (key x) (key y))) [
        | inl e ↦ rw e (le, (h.0, h.1))
        | inr e ↦ rw e (h.0, at_least_with n x ys le h.1)
      ]

  ascends_with : (x : A) (ys : List A) → Ascending key ys → Ascending key (insert_by key x ys)
  ascends_with x [] h = (tt, tt)
  ascends_with x (y ∷ ys) h =
      elim (cases_Bool (leb (key x) (key y))) [
        | inl e ↦ (let le : key x ≤ key y = leb-true _ _ e in rw e ((le, at_least_more (key x) (key y) ys le h.0), (h.0, h.1)))
        | inr e ↦ (let gt : key y < key x = leb-false _ _ e in rw e (at_least_with (key y) x ys (omega (arith, gt)) h.0, ascends_with x ys h.1))
      ]

  sorted_ascends : (xs : List A) → Ascending key (sort_by key xs)
  sorted_ascends [] = tt
  sorted_ascends (x ∷ xs) = ascends_with x (sort_by key xs) (sorted_ascends xs)

  -- those of one key
  tied_at_least : (x : A) (n : ℕ) (ys : List A) → n ≡ key x → AtLeast n (filter (same_key x) ys)
  tied_at_least x n [] e = tt
  tied_at_least x n (y ∷ ys) e =
      elim (cases_Bool (same_key x y)) [
        | inl with ↦ rw with (let s = same_is x y with in omega (arith, s, e), tied_at_least x n ys e)
        | inr without ↦ rw without (tied_at_least x n ys e)
      ]

  tied_ascends : (x : A) (ys : List A) → Ascending key (filter (same_key x) ys)
  tied_ascends x [] = tt
  tied_ascends x (y ∷ ys) =
      elim (cases_Bool (same_key x y)) [
        | inl with ↦ rw with (tied_at_least x (key y) ys (sym (same_is x y with)), tied_ascends x ys)
        | inr without ↦ rw without (tied_ascends x ys)
      ]

  found : (n : ℕ) (x : A) (ys : List A) (w : A) (ws : List A) → AtLeast n ys → filter (same_key x) ys ≡ w ∷ ws → n ≤ key x
  found n x [] w ws h e = absurd cc
  found n x (y ∷ ys) w ws h e =
      elim (cases_Bool (same_key x y)) [
        | inl with ↦ omega (arith, h.0, same_is x y with)
        | inr without ↦ found n x ys w ws h.1 (sym (dropped (same_key x) y ys without) ∙ e)
      ]

  -- lists in order with the same items of each key
  only_one : (ys zs : List A) → Ascending key ys → Ascending key zs → ((x : A) → filter (same_key x) ys ≡ filter (same_key x) zs) → ys ≡ zs
  only_one [] [] left right same = refl
  only_one [] (z ∷ zs) left right same =
      let clash = same z ∙ kept (same_key z) z zs (same_from z z refl) in cc
  only_one (y ∷ ys) [] left right same =
      let clash = sym (same y) ∙ kept (same_key y) y ys (same_from y y refl) in cc
  only_one (y ∷ ys) (z ∷ zs) left right same =
      let at_y = kept (same_key y) y ys (same_from y y refl) in
      let at_z = kept (same_key z) z zs (same_from z z refl) in
      let up : key z ≤ key y = found (key z) y (z ∷ zs) y _ (omega arith, right.0) (sym (same y) ∙ at_y) in
      let down : key y ≤ key z = found (key y) z (y ∷ ys) z _ (omega arith, left.0) (same z ∙ at_z) in
      let heads = sym at_y ∙ same y ∙ kept (same_key y) z zs (same_from y z (omega (arith, up, down))) in
      let head : y ≡ z = cc in
      let tails : (x : A) → filter (same_key x) ys ≡ filter (same_key x) zs =
      λ x. elim (cases_Bool (same_key x y)) [
        | inl with ↦
            let both = sym (kept (same_key x) y ys with) ∙ same x ∙ kept (same_key x) z zs (ap (same_key x) (sym head) ∙ with) in cc
        | inr without ↦
            sym (dropped (same_key x) y ys without) ∙ same x ∙ dropped (same_key x) z zs (ap (same_key x) (sym head) ∙ without)
      ] in
      ap (λ w. w ∷ ys) head ∙ ap (λ l. z ∷ l) (only_one ys zs left.1 right.1 tails)

  pub stably_sorted : (xs ys : List A) → IsNonDecreasingBy key ys → IsStableByKey key nat_cmp xs ys → ys ≡ sort_by key xs
  stably_sorted xs ys sorted stable =
      only_one ys (sort_by key xs) (ascends ys sorted) (sorted_ascends xs) (λ x. stable x ∙ sym (sorted_keeps (same_key x) key xs (tied_ascends x xs)))

-- ---- what is said of each item

insert_passes : {A : Type 0} (key : A → ℕ) (p : A → Bool) (x : A) (xs : List A) → p x ≡ true → list_all p xs ≡ true → list_all p (insert_by key x xs) ≡ true
insert_passes key p x [] h g = rw h refl
insert_passes key p x (y ∷ ys) h g =
    let both = and_parts (p y) (list_all p ys) g in
    elim (cases_Bool (leb (key x) (key y))) [
      | inl e ↦ rw (e, h, both.0, both.1) refl
      | inr e ↦ rw (e, both.0, insert_passes key p x ys h both.1) refl
    ]

pub sorted_passes : {A : Type 0} (key : A → ℕ) (p : A → Bool) (xs : List A) → list_all p xs ≡ true → list_all p (sort_by key xs) ≡ true
sorted_passes key p [] h = refl
sorted_passes key p (x ∷ xs) h = let both = and_parts (p x) (list_all p xs) h in insert_passes key p x (sort_by key xs) both.0 (sorted_passes key p xs both.1)

-- items that are mapped, by a key that says the same of them
insert_mapped : {A B : Type 0} (key : A → ℕ) (key2 : B → ℕ) (f : A → B) (p : A → Bool) (same : (x : A) → p x ≡ true → key2 (f x) ≡ key x) (x : A) (xs : List A) → p x ≡ true → list_all p xs ≡ true
    → map f (insert_by key x xs) ≡ insert_by key2 (f x) (map f xs)
insert_mapped {B = B} key key2 f p same x [] h g = refl
insert_mapped {B = B} key key2 f p same x (y ∷ ys) h g =
    let both = and_parts (p y) (list_all p ys) g in
    elim (cases_Bool (leb (key x) (key y))) [
      | inl e ↦ rw (same x h, same y both.0, e) refl
      | inr e ↦ rw (same x h, same y both.0, e) (ap (λ (zs : List B). f y ∷ zs) (insert_mapped key key2 f p same x ys h both.1))
    ]

pub sorted_mapped : {A B : Type 0} (key : A → ℕ) (key2 : B → ℕ) (f : A → B) (p : A → Bool) (same : (x : A) → p x ≡ true → key2 (f x) ≡ key x) (xs : List A) → list_all p xs ≡ true
    → map f (sort_by key xs) ≡ sort_by key2 (map f xs)
sorted_mapped {B = B} key key2 f p same [] h = refl
sorted_mapped {B = B} key key2 f p same (x ∷ xs) h =
    let both = and_parts (p x) (list_all p xs) h in
    insert_mapped key key2 f p same x (sort_by key xs) both.0 (sorted_passes key p xs both.1)
    ∙ ap (λ (ys : List B). insert_by key2 (f x) ys) (sorted_mapped key key2 f p same xs both.1)

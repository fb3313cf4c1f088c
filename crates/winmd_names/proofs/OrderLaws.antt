-- A list that ascends by a key, and in which items of one key stand as before, is the list sorted by insertion.
use Rattle.std.proofs.Common.{◌≡◌, ℕ, suc, ◌+◌, Bool, true, false, List, [], ◌∷◌, get_or, refl, sym, ap, subst, ◌∙◌, arith, inl, inr}
use Rattle.std.specs.Prelude.{◌&&◌, not, ⊤}
use Rattle.std.specs.List.{filter, AllByRecursion}
use Rattle.std.specs.List.Sorted.{IsSortedByKey, IsStableByKey, ties}
use Rattle.std.specs.Ordering.{nat_cmp, is_lt, is_gt, is_eq, ordering_reverse}
use Rattle.std.specs.Cmp.Lexicographic.{slice_cmp, nat_list_cmp_total}
use Rattle.std.specs.declared.cmp.Ordering.{Ordering}
use Rattle.std.specs.declared.cmp.Ordering.TheVariants.{Less, Equal, Greater}
use Rattle.std.proofs.lemmas.Cmp.{upto, tied_itself}
use Rattle.winmd_uses.proofs.TakeLaws.{either}

reversed : (o : Ordering) → is_gt (ordering_reverse o) ≡ is_lt o
reversed Less = refl
reversed Equal = refl
reversed Greater = refl

of_order : (o : Ordering) → (not (is_lt o) && not (is_lt (ordering_reverse o))) ≡ is_eq o
of_order Less = refl
of_order Equal = refl
of_order Greater = refl

equal_is : (o : Ordering) → is_eq o ≡ true → o ≡ Equal
equal_is Less h = absurd cc
equal_is Equal h = refl
equal_is Greater h = absurd cc

both_no : (o : Ordering) → is_gt o ≡ false → is_gt (ordering_reverse o) ≡ false → o ≡ Equal
both_no Less g h = absurd cc
both_no Equal g h = refl
both_no Greater g h = absurd cc

next : (k : ℕ) → suc k + 1 ≡ suc (k + 1)
next k = omega arith

module _ {A : Type 0} (key : A → List ℕ) where
  abbrev compare : A → A → Ordering
  compare x y = slice_cmp nat_cmp (key x) (key y)

  turned : (x y : A) → slice_cmp nat_cmp (key y) (key x) ≡ ordering_reverse (slice_cmp nat_cmp (key x) (key y))
  turned x y = nat_list_cmp_total.antisymm (key y) (key x)

  -- their keys are equal
  abbrev tied : A → A → Bool
  tied x y = is_eq (slice_cmp nat_cmp (key x) (key y))

  tied-is : (x y : A) → ties (λ a b. is_lt (slice_cmp nat_cmp (key a) (key b))) x y ≡ is_eq (slice_cmp nat_cmp (key x) (key y))
  tied-is x y = ap (λ (o : Ordering). not (is_lt (slice_cmp nat_cmp (key x) (key y))) && not (is_lt o)) (turned x y) ∙ of_order (slice_cmp nat_cmp (key x) (key y))

  -- each comes at or before those behind it
  abbrev NotAfter : A → A → Type 0
  NotAfter x y = is_gt (slice_cmp nat_cmp (key x) (key y)) ≡ false

  abbrev Ascends : List A → Type 0
  Ascends [] = ⊤
  Ascends (x ∷ xs) = AllByRecursion (λ y. is_gt (slice_cmp nat_cmp (key x) (key y)) ≡ false) xs × Ascends xs

  -- ---- from neighbours to all

  further : (x y : A) (ys : List A) → is_gt (slice_cmp nat_cmp (key x) (key y)) ≡ false → AllByRecursion (λ z. is_gt (slice_cmp nat_cmp (key y) (key z)) ≡ false) ys → AllByRecursion (λ z. is_gt (slice_cmp nat_cmp (key x) (key z)) ≡ false) ys
  further x y [] e h = tt
  further x y (z ∷ zs) e h = (upto nat_list_cmp_total (key x) (key y) (key z) e h.0, further x y zs e h.1)

  pub ascends : (xs : List A) → IsSortedByKey key (slice_cmp nat_cmp) xs → Ascends xs
  ascends [] h = tt
  ascends (x ∷ []) h = (tt, tt)
  ascends (x ∷ y ∷ ys) h =
      let first : is_gt (slice_cmp nat_cmp (key x) (key y)) ≡ false = ap is_gt (turned y x) ∙ reversed (slice_cmp nat_cmp (key y) (key x)) ∙ h 0 x (omega arith) (omega arith) in
      let rest : Ascends (y ∷ ys) = ascends (y ∷ ys) (λ k d low high. subst (λ (m : ℕ). is_lt (slice_cmp nat_cmp (key (get_or (x ∷ y ∷ ys) m d)) (key (get_or (y ∷ ys) k d))) ≡ false) (next k) (h (suc k) d (omega arith) (omega (arith, high)))) in
      ((first, further x y ys first rest.0), rest)

  -- ---- two lists that ascend, with the same items of each key

  -- an item of this key is there, and none comes before the first
  head_before : (y x : A) (xs : List A) → Ascends (x ∷ xs) → (z : A) (zs : List A) → filter (λ w. is_eq (slice_cmp nat_cmp (key y) (key w))) (x ∷ xs) ≡ z ∷ zs → is_gt (slice_cmp nat_cmp (key x) (key y)) ≡ false
  head_before y x xs h z zs e =
      elim (either (is_eq (slice_cmp nat_cmp (key y) (key x)))) [
        | inl t ↦ (let same : slice_cmp nat_cmp (key y) (key x) ≡ Equal = equal_is (slice_cmp nat_cmp (key y) (key x)) t in ap is_gt (turned y x ∙ ap ordering_reverse same))
        | inr t ↦ found xs h.0 (rw t at e)
      ]
    where
      found : (ws : List A) → AllByRecursion (λ w. is_gt (slice_cmp nat_cmp (key x) (key w)) ≡ false) ws → filter (λ w. is_eq (slice_cmp nat_cmp (key y) (key w))) ws ≡ z ∷ zs → is_gt (slice_cmp nat_cmp (key x) (key y)) ≡ false
      found [] a f = absurd cc
      found (w ∷ ws) a f =
          elim (either (is_eq (slice_cmp nat_cmp (key y) (key w)))) [
            | inl t ↦
                let same : slice_cmp nat_cmp (key y) (key w) ≡ Equal = equal_is (slice_cmp nat_cmp (key y) (key w)) t in
                upto nat_list_cmp_total (key x) (key w) (key y) a.0 (ap is_gt (turned y w ∙ ap ordering_reverse same))
            | inr t ↦ found ws a.1 (rw t at f)
          ]

  tied_self : (x : A) → is_eq (slice_cmp nat_cmp (key x) (key x)) ≡ true
  tied_self x = ap is_eq (tied_itself nat_list_cmp_total (key x))

  self_first : (x : A) (xs : List A) → filter (λ w. is_eq (slice_cmp nat_cmp (key x) (key w))) (x ∷ xs) ≡ x ∷ filter (λ w. is_eq (slice_cmp nat_cmp (key x) (key w))) xs
  self_first x xs = rw (tied_self x) refl

  pub one_order : (xs ys : List A) → Ascends xs → Ascends ys → ((x : A) → filter (λ w. is_eq (slice_cmp nat_cmp (key x) (key w))) xs ≡ filter (λ w. is_eq (slice_cmp nat_cmp (key x) (key w))) ys) → xs ≡ ys
  one_order [] [] a b h = refl
  one_order [] (y ∷ ys) a b h = absurd (let e = h y ∙ self_first y ys in cc)
  one_order (x ∷ xs) [] a b h = absurd (let e = sym (h x) ∙ self_first x xs in cc)
  one_order (x ∷ xs) (y ∷ ys) a b h =
      let below : is_gt (slice_cmp nat_cmp (key x) (key y)) ≡ false = head_before y x xs a y (filter (λ w. is_eq (slice_cmp nat_cmp (key y) (key w))) ys) (h y ∙ self_first y ys) in
      let above : is_gt (slice_cmp nat_cmp (key y) (key x)) ≡ false = head_before x y ys b x (filter (λ w. is_eq (slice_cmp nat_cmp (key x) (key w))) xs) (sym (h x) ∙ self_first x xs) in
      let equal : slice_cmp nat_cmp (key x) (key y) ≡ Equal = both_no (slice_cmp nat_cmp (key x) (key y)) below (ap is_gt (sym (turned x y)) ∙ above) in
      let both : x ∷ filter (λ w. is_eq (slice_cmp nat_cmp (key x) (key w))) xs ≡ y ∷ filter (λ w. is_eq (slice_cmp nat_cmp (key x) (key w))) ys = sym (self_first x xs) ∙ h x ∙ rw (ap is_eq equal) refl in
      let head : x ≡ y = cc in
      let rest : xs ≡ ys = one_order xs ys a.1 b.1 (λ z. tails z head (h z)) in
      ap (λ (w : A). w ∷ xs) head ∙ ap (λ (ws : List A). y ∷ ws) rest
    where
      tails : (z : A) → x ≡ y → filter (λ w. is_eq (slice_cmp nat_cmp (key z) (key w))) (x ∷ xs) ≡ filter (λ w. is_eq (slice_cmp nat_cmp (key z) (key w))) (y ∷ ys)
          → filter (λ w. is_eq (slice_cmp nat_cmp (key z) (key w))) xs ≡ filter (λ w. is_eq (slice_cmp nat_cmp (key z) (key w))) ys
      tails z is e =
          let f : filter (λ w. is_eq (slice_cmp nat_cmp (key z) (key w))) (x ∷ xs) ≡ filter (λ w. is_eq (slice_cmp nat_cmp (key z) (key w))) (x ∷ ys) = e ∙ ap (λ (v : A). filter (λ w. is_eq (slice_cmp nat_cmp (key z) (key w))) (v ∷ ys)) (sym is) in
          elim (either (is_eq (slice_cmp nat_cmp (key z) (key x)))) [
            | inl t ↦ (let g = rw t at f in cc)
            | inr t ↦ rw t at f
          ]

  -- ---- sorted by insertion

  abbrev pub placed : Ordering → A → A → List A → List A → List A
  placed Greater x y ys inserted = y ∷ inserted
  placed Less x y ys inserted = x ∷ y ∷ ys
  placed Equal x y ys inserted = x ∷ y ∷ ys

  abbrev pub put_in : A → List A → List A
  put_in x [] = x ∷ []
  put_in x (y ∷ ys) = placed (slice_cmp nat_cmp (key x) (key y)) x y ys (put_in x ys)

  abbrev pub sorted_in : List A → List A
  sorted_in [] = []
  sorted_in (x ∷ xs) = put_in x (sorted_in xs)

  placed_same : (z x y : A) (ys inserted : List A) (o : Ordering) → slice_cmp nat_cmp (key x) (key y) ≡ o
      → filter (λ w. is_eq (slice_cmp nat_cmp (key z) (key w))) inserted ≡ filter (λ w. is_eq (slice_cmp nat_cmp (key z) (key w))) (x ∷ ys)
      → filter (λ w. is_eq (slice_cmp nat_cmp (key z) (key w))) (placed o x y ys inserted) ≡ filter (λ w. is_eq (slice_cmp nat_cmp (key z) (key w))) (x ∷ y ∷ ys)
  placed_same z x y ys inserted Less e h = refl
  placed_same z x y ys inserted Equal e h = refl
  placed_same z x y ys inserted Greater e h =
      elim (either (is_eq (slice_cmp nat_cmp (key z) (key y)))) [
        | inl t ↦ elim (either (is_eq (slice_cmp nat_cmp (key z) (key x)))) [
          | inl s ↦ absurd (
              let zy : slice_cmp nat_cmp (key z) (key y) ≡ Equal = equal_is (slice_cmp nat_cmp (key z) (key y)) t in
              let zx : slice_cmp nat_cmp (key z) (key x) ≡ Equal = equal_is (slice_cmp nat_cmp (key z) (key x)) s in
              let xy : slice_cmp nat_cmp (key x) (key y) ≡ Equal = sym (nat_list_cmp_total.congr (key z) (key x) (key y) zx) ∙ zy in
              let bad : Greater ≡ Equal = sym e ∙ xy in cc)
          | inr s ↦ (let g = rw s at h in rw (t, s) (ap (λ (ws : List A). y ∷ ws) g))
        ]
        | inr t ↦ elim (either (is_eq (slice_cmp nat_cmp (key z) (key x)))) [
          | inl s ↦ (let g = rw s at h in rw (t, s) g)
          | inr s ↦ (let g = rw s at h in rw (t, s) g)
        ]
      ]

  put_same : (z x : A) (ys : List A) → filter (λ w. is_eq (slice_cmp nat_cmp (key z) (key w))) (put_in x ys) ≡ filter (λ w. is_eq (slice_cmp nat_cmp (key z) (key w))) (x ∷ ys)
  put_same z x [] = refl
  put_same z x (y ∷ ys) = placed_same z x y ys (put_in x ys) (slice_cmp nat_cmp (key x) (key y)) refl (put_same z x ys)

  same_behind : (z x : A) (ys zs : List A) → filter (λ w. is_eq (slice_cmp nat_cmp (key z) (key w))) ys ≡ filter (λ w. is_eq (slice_cmp nat_cmp (key z) (key w))) zs
      → filter (λ w. is_eq (slice_cmp nat_cmp (key z) (key w))) (x ∷ ys) ≡ filter (λ w. is_eq (slice_cmp nat_cmp (key z) (key w))) (x ∷ zs)
  same_behind z x ys zs h =
      elim (either (is_eq (slice_cmp nat_cmp (key z) (key x)))) [
        | inl e ↦ rw e (ap (λ (ws : List A). x ∷ ws) h)
        | inr e ↦ rw e h
      ]

  sorted_same : (z : A) (xs : List A) → filter (λ w. is_eq (slice_cmp nat_cmp (key z) (key w))) (sorted_in xs) ≡ filter (λ w. is_eq (slice_cmp nat_cmp (key z) (key w))) xs
  sorted_same z [] = refl
  sorted_same z (x ∷ xs) = put_same z x (sorted_in xs) ∙ same_behind z x (sorted_in xs) xs (sorted_same z xs)

  placed_all : (Q : A → Type 0) (x y : A) (ys inserted : List A) (o : Ordering) → Q x → Q y → AllByRecursion Q ys → AllByRecursion Q inserted → AllByRecursion Q (placed o x y ys inserted)
  placed_all Q x y ys inserted Less a b c d = (a, (b, c))
  placed_all Q x y ys inserted Equal a b c d = (a, (b, c))
  placed_all Q x y ys inserted Greater a b c d = (b, d)

  put_all : (Q : A → Type 0) (x : A) (ys : List A) → Q x → AllByRecursion Q ys → AllByRecursion Q (put_in x ys)
  put_all Q x [] a b = (a, tt)
  put_all Q x (y ∷ ys) a b = placed_all Q x y ys (put_in x ys) (slice_cmp nat_cmp (key x) (key y)) a b.0 b.1 (put_all Q x ys a b.1)

  placed_ascends : (x y : A) (ys : List A) (o : Ordering) → slice_cmp nat_cmp (key x) (key y) ≡ o → Ascends (y ∷ ys) → Ascends (put_in x ys) → Ascends (placed o x y ys (put_in x ys))
  placed_ascends x y ys Less e a b = (let first : is_gt (slice_cmp nat_cmp (key x) (key y)) ≡ false = ap is_gt e in ((first, further x y ys first a.0), a))
  placed_ascends x y ys Equal e a b = (let first : is_gt (slice_cmp nat_cmp (key x) (key y)) ≡ false = ap is_gt e in ((first, further x y ys first a.0), a))
  placed_ascends x y ys Greater e a b = (put_all (λ w. is_gt (slice_cmp nat_cmp (key y) (key w)) ≡ false) x ys (ap is_gt (turned x y ∙ ap ordering_reverse e)) a.0, b)

  put_ascends : (x : A) (ys : List A) → Ascends ys → Ascends (put_in x ys)
  put_ascends x [] a = (tt, tt)
  put_ascends x (y ∷ ys) a = placed_ascends x y ys (slice_cmp nat_cmp (key x) (key y)) refl a (put_ascends x ys a.1)

  sorted_ascends : (xs : List A) → Ascends (sorted_in xs)
  sorted_ascends [] = tt
  sorted_ascends (x ∷ xs) = put_ascends x (sorted_in xs) (sorted_ascends xs)

  alike : (p q : A → Bool) → ((x : A) → p x ≡ q x) → (xs : List A) → filter p xs ≡ filter q xs
  alike p q h [] = refl
  alike p q h (x ∷ xs) =
      elim (either (q x)) [
        | inl e ↦ rw (h x, e) (ap (λ (ws : List A). x ∷ ws) (alike p q h xs))
        | inr e ↦ rw (h x, e) (alike p q h xs)
      ]

  -- what a stable sort gives
  pub sort_is : (xs ys : List A) → IsSortedByKey key (slice_cmp nat_cmp) ys → IsStableByKey key (slice_cmp nat_cmp) xs ys → ys ≡ sorted_in xs
  sort_is xs ys s t =
      one_order ys (sorted_in xs) (ascends ys s) (sorted_ascends xs)
      (λ z. sym (alike (ties (λ a b. is_lt (slice_cmp nat_cmp (key a) (key b))) z) (λ w. is_eq (slice_cmp nat_cmp (key z) (key w))) (tied-is z) ys) ∙ t z
      ∙ alike (ties (λ a b. is_lt (slice_cmp nat_cmp (key a) (key b))) z) (λ w. is_eq (slice_cmp nat_cmp (key z) (key w))) (tied-is z) xs ∙ sym (sorted_same z xs))

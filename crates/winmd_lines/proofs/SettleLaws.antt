-- A list that ascends by its keys, sorted by another key, is put into the order of keys as it stood.
use Rattle.std.proofs.Common.{◌≡◌, ℕ, leb, List, [], ◌∷◌, refl, sym, ap, ◌∙◌, inl, inr}
use Rattle.std.specs.Ordering.{nat_cmp, ordering_reverse}
use Rattle.std.specs.Cmp.Lexicographic.{slice_cmp}
use Rattle.std.specs.declared.cmp.Ordering.{Ordering}
use Rattle.std.specs.declared.cmp.Ordering.TheVariants.{Less, Equal, Greater}
use Rattle.std.specs.List.{AllByRecursion}
use Rattle.std.proofs.lemmas.Cmp.{nat_list_cmp_total}
use Rattle.winmd_lines.specs.Orders.{Rising, insert_by, sort_by, insert_once, placed_once, set_by}
use Rattle.winmd_lines.proofs.LineLaws.{either}

abbrev cmp : List ℕ → List ℕ → Ordering
cmp a b = slice_cmp nat_cmp a b

back : (a b : List ℕ) (o : Ordering) → cmp a b ≡ o → cmp b a ≡ ordering_reverse o
back a b o e = nat_list_cmp_total.antisymm b a ∙ ap ordering_reverse e

-- the key comes before all of these
abbrev Before : {A : Type 0} → (A → List ℕ) → A → List A → Type 0
Before key x ys = AllByRecursion (λ y. slice_cmp nat_cmp (key x) (key y) ≡ Less) ys

before_more : {A : Type 0} (key : A → List ℕ) (x y : A) (ys : List A) → cmp (key x) (key y) ≡ Less → Before key y ys → Before key x ys
before_more key x y [] e h = tt
before_more key x y (z ∷ zs) e h = (nat_list_cmp_total.trans (key x) (key y) (key z) e h.0, before_more key x y zs e h.1)

rising_tail : {A : Type 0} (key : A → List ℕ) (x : A) (xs : List A) → Rising key (x ∷ xs) → Rising key xs
rising_tail key x [] h = tt
rising_tail key x (y ∷ ys) h = h.1

before_all : {A : Type 0} (key : A → List ℕ) (x : A) (xs : List A) → Rising key (x ∷ xs) → Before key x xs
before_all key x [] h = tt
before_all key x (y ∷ ys) h = (h.0, before_more key x y ys h.0 (before_all key y ys h.1))

-- ---- two keys go in either order

module _ {A : Type 0} (key : A → List ℕ) (x y : A) (less : slice_cmp nat_cmp (key x) (key y) ≡ Less) where
  over : slice_cmp nat_cmp (key y) (key x) ≡ Greater
  over = back (key x) (key y) Less less

  swap_less : (z : A) (zs : List A) (o : Ordering) → slice_cmp nat_cmp (key x) (key z) ≡ Less → slice_cmp nat_cmp (key y) (key z) ≡ o
      → insert_once key y (x ∷ z ∷ zs) ≡ insert_once key x (placed_once o y z zs (insert_once key y zs))
  swap_less z zs Less e f = rw (over, f, less) refl
  swap_less z zs Equal e f = rw (over, f, less) refl
  swap_less z zs Greater e f = rw (over, f, e) refl

  swap_at : (z : A) (zs : List A) (o : Ordering) → slice_cmp nat_cmp (key x) (key z) ≡ o → insert_once key y (insert_once key x zs) ≡ insert_once key x (insert_once key y zs)
      → insert_once key y (placed_once o x z zs (insert_once key x zs)) ≡ insert_once key x (insert_once key y (z ∷ zs))
  swap_at z zs Less e ih = swap_less z zs (slice_cmp nat_cmp (key y) (key z)) e refl
  swap_at z zs Equal e ih =
      let f : slice_cmp nat_cmp (key y) (key z) ≡ Greater = back (key z) (key y) Less (sym (nat_list_cmp_total.congr (key x) (key z) (key y) e) ∙ less) in
      rw (over, f, e) refl
  swap_at z zs Greater e ih =
      let f : slice_cmp nat_cmp (key y) (key z) ≡ Greater = back (key z) (key y) Less (nat_list_cmp_total.trans (key z) (key x) (key y) (back (key x) (key z) Greater e) less) in
      rw (f, e) (ap (λ r. z ∷ r) ih)

  swap : (zs : List A) → insert_once key y (insert_once key x zs) ≡ insert_once key x (insert_once key y zs)
  swap [] = rw (over, less) refl
  swap (z ∷ zs) = swap_at z zs (slice_cmp nat_cmp (key x) (key z)) refl (swap zs)

set_insert : {A : Type 0} (key : A → List ℕ) (k : A → ℕ) (x : A) (ys : List A) → Before key x ys → set_by key (insert_by k x ys) ≡ insert_once key x (set_by key ys)
set_insert key k x [] h = refl
set_insert key k x (y ∷ ys) h =
    elim (either (leb (k x) (k y))) [
      | inl e ↦ rw e refl
      | inr e ↦ rw e (ap (insert_once key y) (set_insert key k x ys h.1) ∙ swap key x y h.0 (set_by key ys))
    ]

-- what holds of all holds of all in another order
insert_all : {A : Type 0} (Q : A → Type 0) (k : A → ℕ) (x : A) (ys : List A) → Q x → AllByRecursion Q ys → AllByRecursion Q (insert_by k x ys)
insert_all Q k x [] q h = (q, tt)
insert_all Q k x (y ∷ ys) q h =
    elim (either (leb (k x) (k y))) [
      | inl e ↦ rw e (q, h)
      | inr e ↦ rw e (h.0, insert_all Q k x ys q h.1)
    ]

pub sort_all : {A : Type 0} (Q : A → Type 0) (k : A → ℕ) (xs : List A) → AllByRecursion Q xs → AllByRecursion Q (sort_by k xs)
sort_all Q k [] h = tt
sort_all Q k (x ∷ xs) h = insert_all Q k x (sort_by k xs) h.0 (sort_all Q k xs h.1)

set_sort : {A : Type 0} (key : A → List ℕ) (k : A → ℕ) (xs : List A) → Rising key xs → set_by key (sort_by k xs) ≡ set_by key xs
set_sort key k [] h = refl
set_sort key k (x ∷ xs) h =
    set_insert key k x (sort_by k xs) (sort_all (λ y. slice_cmp nat_cmp (key x) (key y) ≡ Less) k xs (before_all key x xs h)) ∙ ap (insert_once key x) (set_sort key k xs (rising_tail key x xs h))

-- what ascends is in order
pub set_rising : {A : Type 0} (key : A → List ℕ) (xs : List A) → Rising key xs → set_by key xs ≡ xs
set_rising key [] h = refl
set_rising key (x ∷ []) h = refl
set_rising key (x ∷ y ∷ ys) h = ap (insert_once key x) (set_rising key (y ∷ ys) h.1) ∙ rw h.0 refl

pub set_again_by : {A : Type 0} (key : A → List ℕ) (k : A → ℕ) (xs : List A) → Rising key xs → set_by key (sort_by k xs) ≡ xs
set_again_by key k xs h = set_sort key k xs h ∙ set_rising key xs h

-- Lists in the order of keys: what holds of each item, and that the order is that of keys.
use Rattle.std.proofs.Common.{◌≡◌, ℕ, ◌+◌, ◌≤◌, List, [], ◌∷◌, refl, ap, ◌∙◌, arith}
use Rattle.std.specs.Ordering.{nat_cmp, ordering_reverse}
use Rattle.std.specs.Cmp.Lexicographic.{slice_cmp}
use Rattle.std.specs.List.{AllByRecursion}
use Rattle.std.specs.declared.cmp.Ordering.TheVariants.{Less, Equal, Greater}
use Rattle.std.proofs.lemmas.Cmp.{nat_list_cmp_total}
use Rattle.winmd_lines.specs.Orders.{Rising, insert_once, placed_once, set_by}

module _ {A : Type 0} (key : A → List ℕ) where
  abbrev Below : A → A → Type 0
  Below x y = slice_cmp nat_cmp (key x) (key y) ≡ Less

  rising_cons : (x : A) (ys : List A) → AllByRecursion (Below x) ys → Rising key ys → Rising key (x ∷ ys)
  rising_cons x [] h r = tt
  rising_cons x (y ∷ ys) h r = (h.0, r)

  rising_tail : (x : A) (ys : List A) → Rising key (x ∷ ys) → Rising key ys
  rising_tail x [] h = tt
  rising_tail x (y ∷ ys) h = h.1

  module _ (P : A → Type 0) where
    insert_all : (x : A) (ys : List A) → P x → AllByRecursion P ys → AllByRecursion P (insert_once key x ys)
    insert_all x [] p h = (p, tt)
    insert_all x (y ∷ ys) p h = elim (slice_cmp nat_cmp (key x) (key y)) as (λ o. AllByRecursion P (placed_once o x y ys (insert_once key x ys))) [
      | Less ↦ (p, h)
      | Equal ↦ (p, h.1)
      | Greater ↦ (h.0, insert_all x ys p h.1)
    ]

    pub set_all : (xs : List A) → AllByRecursion P xs → AllByRecursion P (set_by key xs)
    set_all [] h = tt
    set_all (x ∷ xs) h = insert_all x (set_by key xs) h.0 (set_all xs h.1)

  -- what stands behind an item that rises stays behind it
  above : (x y : A) (ys : List A) → Below y x → Rising key (y ∷ ys) → Rising key (insert_once key x ys) → Rising key (y ∷ insert_once key x ys)
  above x y [] l r h = (l, tt)
  above x y (z ∷ zs) l r h = elim (slice_cmp nat_cmp (key x) (key z)) as (λ o. Rising key (placed_once o x z zs (insert_once key x zs)) → Rising key (y ∷ placed_once o x z zs (insert_once key x zs))) [
    | Less ↦ λ g. (l, g)
    | Equal ↦ λ g. (l, g)
    | Greater ↦ λ g. (r.0, g)
  ] h

  same_above : (x y : A) (ys : List A) → slice_cmp nat_cmp (key x) (key y) ≡ Equal → Rising key (y ∷ ys) → Rising key (x ∷ ys)
  same_above x y [] e r = tt
  same_above x y (z ∷ zs) e r = (nat_list_cmp_total.congr (key x) (key y) (key z) e ∙ r.0, r.1)

  insert_rises : (x : A) (ys : List A) → Rising key ys → Rising key (insert_once key x ys)
  insert_rises x [] r = tt
  insert_rises x (y ∷ ys) r = elim (slice_cmp nat_cmp (key x) (key y)) as (λ o. slice_cmp nat_cmp (key x) (key y) ≡ o → Rising key (placed_once o x y ys (insert_once key x ys))) [
    | Less ↦ λ e. (e, r)
    | Equal ↦ λ e. same_above x y ys e r
    | Greater ↦ λ e. above x y ys (nat_list_cmp_total.antisymm (key y) (key x) ∙ ap ordering_reverse e) r (insert_rises x ys (rising_tail y ys r))
  ] refl

  pub set_rises : (xs : List A) → Rising key (set_by key xs)
  set_rises [] = tt
  set_rises (x ∷ xs) = insert_rises x (set_by key xs) (set_rises xs)

  -- a sum over items is no greater
  module _ (f : A → ℕ) where
    abbrev pub sum : List A → ℕ
    sum [] = 0
    sum (x ∷ xs) = f x + sum xs

    insert_sum : (x : A) (ys : List A) → sum (insert_once key x ys) ≤ f x + sum ys
    insert_sum x [] = omega arith
    insert_sum x (y ∷ ys) = elim (slice_cmp nat_cmp (key x) (key y)) as (λ o. sum (placed_once o x y ys (insert_once key x ys)) ≤ f x + (f y + sum ys)) [
      | Less ↦ omega arith
      | Equal ↦ omega arith
      | Greater ↦ (let rest : sum (insert_once key x ys) ≤ f x + sum ys = insert_sum x ys in omega (arith, rest))
    ]

    pub set_sum : (xs : List A) → sum (set_by key xs) ≤ sum xs
    set_sum [] = omega arith
    set_sum (x ∷ xs) =
        let rest : sum (set_by key xs) ≤ sum xs = set_sum xs in
        let here : sum (insert_once key x (set_by key xs)) ≤ f x + sum (set_by key xs) = insert_sum x (set_by key xs) in
        omega (arith, rest, here)

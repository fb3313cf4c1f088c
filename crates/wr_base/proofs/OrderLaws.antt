-- Declarations in the order of their names: which order that is, and what is declared under a name.
use Rattle.std.proofs.Common.{◌≡◌, ℕ, zero, suc, ◌+◌, ◌≤◌, true, false, cond, List, [], ◌∷◌, Some, None, Contains, map, length, get_or, slice_get, refl, sym, ap, subst, ◌∙◌, arith, zero-add}
use Rattle.std.specs.declared.cmp.Ordering.TheVariants.{Less}
use Rattle.std.specs.Ordering.{nat_cmp, ordering_reverse}
use Rattle.std.specs.Str.{bytes_eq}
use Rattle.std.specs.Cmp.Lexicographic.{slice_cmp, nat_list_cmp_total, bytes_decides}
use Rattle.std.specs.List.{AllByRecursion, AllAdjacentBelow}
use Rattle.std.specs.List.Sorted.{IsPermutation}
use Rattle.std.proofs.lemmas.Option.{same_Some, none-some}
use Rattle.std.proofs.lemmas.List.{get_or-map, length-map}
use Rattle.std.proofs.lemmas.List.Sums.{sum_by-cons}
use Rattle.std.proofs.lemmas.List.Sorted.{Contains-permutation, IsPermutation-sym}
use Rattle.wr_base.specs.declared.declaration.Declaration.{Declaration}
use Rattle.wr_base.specs.Declarations.{name_of, Precedes, IsInOrder, declared_as, times}
use Rattle.wr_base.specs.Normal.{normal}
use Rattle.wr_base.proofs.TwiceLemmas.{rises_once, tail_rises, name_of-normal}

-- ---- two lists in strict order that have the same elements are one list

module _ {X : Type 0} (key : X → List ℕ) where
  abbrev Below : X → X → Type 0
  Below x y = slice_cmp nat_cmp (key x) (key y) ≡ Less

  lifted : (P Q : X → Type 0) → ((z : X) → P z → Q z) → (xs : List X) → AllByRecursion P xs → AllByRecursion Q xs
  lifted P Q h [] a = tt
  lifted P Q h (x ∷ xs) a = (h x a.0, lifted P Q h xs a.1)

  all_above : (x : X) (xs : List X) → AllAdjacentBelow Below (x ∷ xs) (length (x ∷ xs)) → AllByRecursion (Below x) xs
  all_above x [] r = tt
  all_above x (y ∷ ys) r =
      let first : Below x y = r 0 x (omega arith) in
      let rest : AllByRecursion (Below y) ys = all_above y ys (tail_rises key x (y ∷ ys) (length (y ∷ ys)) (λ k d high. r k d (omega (arith, high)))) in
      (first, lifted (Below y) (Below x) (λ z above. nat_list_cmp_total.trans (key x) (key y) (key z) first above) ys rest)

  inside : (P : X → Type 0) (xs : List X) (z : X) → AllByRecursion P xs → Contains xs z → P z
  inside P [] z a (k, l, e) = absurd (omega (arith, l))
  inside P (x ∷ xs) z a (zero, l, e) = subst P e a.0
  inside P (x ∷ xs) z a (suc k, l, e) = inside P xs z a.1 (k, omega (arith, l), e)

  not_both : (x y : X) → Below x y → Below y x → ⊥
  not_both x y a b = cc (sym a ∙ nat_list_cmp_total.antisymm (key x) (key y) ∙ ap ordering_reverse b)

  heads : (x y : X) (xs ys : List X) → AllByRecursion (Below x) xs → AllByRecursion (Below y) ys → Contains (y ∷ ys) x → Contains (x ∷ xs) y → x ≡ y
  heads x y xs ys a b (zero, l, e) d = sym e
  heads x y xs ys a b (suc k, l, e) (zero, m, f) = f
  heads x y xs ys a b (suc k, l, e) (suc j, m, f) =
      absurd (not_both y x (inside (Below y) ys x b (k, omega (arith, l), e)) (inside (Below x) xs y a (j, omega (arith, m), f)))

  others : (x y : X) (xs ys : List X) → x ≡ y → AllByRecursion (Below x) xs → ((z : X) → Contains (x ∷ xs) z → Contains (y ∷ ys) z) → (z : X) → Contains xs z → Contains ys z
  others x y xs ys p a f z (k, l, e) = behind (f z (suc k, omega (arith, l), e))
    where
      apart : Below x z
      apart = inside (Below x) xs z a (k, l, e)

      behind : Contains (y ∷ ys) z → Contains ys z
      behind (zero, m, g) = absurd (not_both z z (subst (λ t. Below t z) (p ∙ g) apart) (subst (λ t. Below t z) (p ∙ g) apart))
      behind (suc j, m, g) = (j, omega (arith, m), g)

  pub one_order : (xs ys : List X) → AllAdjacentBelow Below xs (length xs) → AllAdjacentBelow Below ys (length ys)
      → ((z : X) → Contains xs z → Contains ys z) → ((z : X) → Contains ys z → Contains xs z) → xs ≡ ys
  one_order [] [] r s f g = refl
  one_order [] (y ∷ ys) r s f g = let none = g y (0, omega arith, refl) in absurd (omega (arith, none.1))
  one_order (x ∷ xs) [] r s f g = let none = f x (0, omega arith, refl) in absurd (omega (arith, none.1))
  one_order (x ∷ xs) (y ∷ ys) r s f g =
      let a : AllByRecursion (Below x) xs = all_above x xs r in
      let b : AllByRecursion (Below y) ys = all_above y ys s in
      let p : x ≡ y = heads x y xs ys a b (f x (0, omega arith, refl)) (g y (0, omega arith, refl)) in
      let r' : AllAdjacentBelow Below xs (length xs) = tail_rises key x xs (length xs) (λ k d high. r k d (omega (arith, high))) in
      let s' : AllAdjacentBelow Below ys (length ys) = tail_rises key y ys (length ys) (λ k d high. s k d (omega (arith, high))) in
      ap (λ t. t ∷ xs) p ∙ ap (λ t. y ∷ t) (one_order xs ys r' s' (others x y xs ys p a f) (others y x ys xs (sym p) b g))

-- putting the inner lists in order leaves the order of names
rises-normal : (list : List Declaration) → AllAdjacentBelow Precedes list (length list) → AllAdjacentBelow Precedes (map normal list) (length (map normal list))
rises-normal list r k d high =
    let size : length (map normal list) ≡ length list = length-map list normal in
    let one : name_of (get_or (map normal list) k d) ≡ name_of (get_or list k d) = ap name_of (get_or-map normal list k d d (omega (arith, high, size))) ∙ name_of-normal (get_or list k d) in
    let two : name_of (get_or (map normal list) (k + 1) d) ≡ name_of (get_or list (k + 1) d) = ap name_of (get_or-map normal list (k + 1) d d (omega (arith, high, size))) ∙ name_of-normal (get_or list (k + 1) d) in
    subst (λ a. slice_cmp nat_cmp a (name_of (get_or (map normal list) (k + 1) d)) ≡ Less) (sym one)
    (subst (λ b. slice_cmp nat_cmp (name_of (get_or list k d)) b ≡ Less) (sym two) (r k d (omega (arith, high, size))))

-- declarations in order stay where they are
pub stay_in_order : (list new : List Declaration) → IsPermutation (map normal list) new → AllAdjacentBelow Precedes new (length new) → IsInOrder list → new ≡ map normal list
stay_in_order list new moved rises ordered =
    one_order name_of new (map normal list) rises (rises-normal list ordered.rises)
    (λ z c. Contains-permutation new (map normal list) z (IsPermutation-sym (map normal list) new moved) c)
    (λ z c. Contains-permutation (map normal list) new z moved c)

-- ---- the declaration of a full name

one_more : (d : Declaration) (ds : List Declaration) (name : List ℕ) → bytes_eq (name_of d) name ≡ true → times (d ∷ ds) name ≡ 1 + times ds name
one_more d ds name e = sum_by-cons (λ x. cond (bytes_eq (name_of x) name) 1 0) d ds ∙ ap (λ b. cond b 1 0 + times ds name) e

no_more : (d : Declaration) (ds : List Declaration) (name : List ℕ) → bytes_eq (name_of d) name ≡ false → times (d ∷ ds) name ≡ times ds name
no_more d ds name e = sum_by-cons (λ x. cond (bytes_eq (name_of x) name) 1 0) d ds ∙ ap (λ b. cond b 1 0 + times ds name) e ∙ zero-add (times ds name)

there : (ds : List Declaration) (i : ℕ) (name : List ℕ) → slice_get (map name_of ds) i ≡ Some name → 1 ≤ times ds name
there [] i name e = absurd (none-some name e)
there (d ∷ ds) zero name e = let t = one_more d ds name ((bytes_decides (name_of d) name).1 (same_Some (name_of d) name e)) in omega (arith, t)
there (d ∷ ds) (suc i) name e = let t = there ds i name e in elim (bytes_eq (name_of d) name) as (λ b. bytes_eq (name_of d) name ≡ b → 1 ≤ times (d ∷ ds) name) [
  | true ↦ λ h. (let o = one_more d ds name h in omega (arith, o))
  | false ↦ λ h. (let o = no_more d ds name h in omega (arith, o, t))
] refl

once : (ds : List Declaration) (i : ℕ) (name : List ℕ) → times ds name ≤ 1 → slice_get (map name_of ds) i ≡ Some name → declared_as ds name ≡ slice_get ds i
once [] i name l e = absurd (none-some name e)
once (d ∷ ds) zero name l e = ap (λ b. cond b (Some d) (declared_as ds name)) ((bytes_decides (name_of d) name).1 (same_Some (name_of d) name e))
once (d ∷ ds) (suc i) name l e = elim (bytes_eq (name_of d) name) as (λ b. bytes_eq (name_of d) name ≡ b → cond b (Some d) (declared_as ds name) ≡ slice_get ds i) [
  | true ↦ λ h. (let o = one_more d ds name h in let t = there ds i name e in absurd (omega (arith, o, t, l)))
  | false ↦ λ h. (let o = no_more d ds name h in once ds i name (omega (arith, o, l)) e)
] refl

-- where names rise, a place of a name is that of its declaration
pub finds_at : (types : List Declaration) (i : ℕ) (name : List ℕ) → AllAdjacentBelow Precedes types (length types) → slice_get (map name_of types) i ≡ Some name → declared_as types name ≡ slice_get types i
finds_at types i name rises e = once types i name (rises_once name_of types rises name) e

pub finds : (types : List Declaration) (i : ℕ) (d : Declaration) (name : List ℕ) → IsInOrder types → slice_get (map name_of types) i ≡ Some name → slice_get types i ≡ Some d → declared_as types name ≡ Some d
finds types i d name ordered e at = finds_at types i name ordered.rises e ∙ at

pub finds_none : (types : List Declaration) (name : List ℕ) → (Contains (map name_of types) name → ⊥) → declared_as types name ≡ None
finds_none [] name n = refl
finds_none (d ∷ ds) name n = elim (bytes_eq (name_of d) name) as (λ b. bytes_eq (name_of d) name ≡ b → cond b (Some d) (declared_as ds name) ≡ None) [
  | true ↦ λ h. absurd (n (0, omega arith, (bytes_decides (name_of d) name).0 h))
  | false ↦ λ h. finds_none ds name (λ c. n (suc c.0, omega (arith, c.1), c.2))
] refl

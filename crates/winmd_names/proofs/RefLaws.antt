-- Names in order, each once: lists of the same names are one list.
use Rattle.std.proofs.Common.{◌≡◌, ℕ, Bool, true, false, List, [], ◌∷◌, map, string_bytes, refl, sym, ap, subst, ◌∙◌, inl, inr}
use Rattle.std.specs.Prelude.{◌||◌, ◌&&◌, String}
use Rattle.std.specs.List.{filter, list_any, AllByRecursion}
use Rattle.std.specs.Str.{bytes_eq}
use Rattle.std.specs.Ordering.{nat_cmp, is_eq, ordering_reverse}
use Rattle.std.specs.Cmp.Lexicographic.{slice_cmp, bytes_decides, nat_list_cmp_total}
use Rattle.std.specs.declared.cmp.Ordering.{Ordering}
use Rattle.std.specs.declared.cmp.Ordering.TheVariants.{Less, Equal, Greater}
use Rattle.std.proofs.lemmas.Map.Text.{is_eq-slice_cmp}
use Rattle.std.specs.List.Sorted.{IsStrictlySortedBy}
use Rattle.std.specs.String.{string_cmp}
use Rattle.std.specs.declared.alloc.Global.{Global}
use Rattle.winmd_lines.specs.Orders.{insert_once, placed_once, set_by}
use Rattle.winmd_uses.specs.Orders.{Rises}
use Rattle.winmd_uses.proofs.OrderLaws.{before_rest, not_among}
use Rattle.winmd_uses.proofs.TakeLaws.{either}

is_self : (x : List ℕ) → bytes_eq x x ≡ true
is_self x = (bytes_decides x x).1 refl

there : (x : List ℕ) (xs : List (List ℕ)) → list_any (bytes_eq x) (x ∷ xs) ≡ true
there x xs = rw (is_self x) refl

one_list_at : (x z : List ℕ) (xs zs : List (List ℕ)) (o : Ordering) → slice_cmp nat_cmp x z ≡ o → Rises (x ∷ xs) → Rises (z ∷ zs)
    → ((n : List ℕ) → list_any (bytes_eq n) (x ∷ xs) ≡ list_any (bytes_eq n) (z ∷ zs))
    → (((n : List ℕ) → list_any (bytes_eq n) xs ≡ list_any (bytes_eq n) zs) → xs ≡ zs) → x ∷ xs ≡ z ∷ zs
one_list_at x z xs zs Less e a b h more = absurd (
    let no : list_any (bytes_eq x) (z ∷ zs) ≡ false = not_among x (z ∷ zs) (e, before_rest x z zs e b.0) in
    let bad : true ≡ false = sym (there x xs) ∙ h x ∙ no in cc)
one_list_at x z xs zs Greater e a b h more = absurd (
    let back : slice_cmp nat_cmp z x ≡ Less = nat_list_cmp_total.antisymm z x ∙ ap ordering_reverse e in
    let no : list_any (bytes_eq z) (x ∷ xs) ≡ false = not_among z (x ∷ xs) (back, before_rest z x xs back a.0) in
    let bad : true ≡ false = sym (there z zs) ∙ sym (h z) ∙ no in cc)
one_list_at x z xs zs Equal e a b h more =
    let is : x ≡ z = (bytes_decides x z).0 (sym (is_eq-slice_cmp x z) ∙ ap is_eq e) in
    let b2 : AllByRecursion (λ y. slice_cmp nat_cmp x y ≡ Less) zs = subst (λ (w : List ℕ). AllByRecursion (λ y. slice_cmp nat_cmp w y ≡ Less) zs) (sym is) b.0 in
    ap (λ (w : List ℕ). w ∷ xs) is ∙ ap (λ ws. z ∷ ws) (more (λ n. tails n is b2))
  where
    tails : (n : List ℕ) → x ≡ z → AllByRecursion (λ y. slice_cmp nat_cmp x y ≡ Less) zs → list_any (bytes_eq n) xs ≡ list_any (bytes_eq n) zs
    tails n is b2 =
        elim (either (bytes_eq n x)) [
          | inl t ↦ (let same : x ≡ n = sym ((bytes_decides n x).0 t) in
              let left : list_any (bytes_eq n) xs ≡ false = subst (λ (w : List ℕ). list_any (bytes_eq w) xs ≡ false) same (not_among x xs a.0) in
              let right : list_any (bytes_eq n) zs ≡ false = subst (λ (w : List ℕ). list_any (bytes_eq w) zs ≡ false) same (not_among x zs b2) in
              left ∙ sym right)
          | inr t ↦ (let t2 : bytes_eq n z ≡ false = ap (bytes_eq n) (sym is) ∙ t in rw (t, t2) at (h n))
        ]

pub one_list : (xs zs : List (List ℕ)) → Rises xs → Rises zs → ((n : List ℕ) → list_any (bytes_eq n) xs ≡ list_any (bytes_eq n) zs) → xs ≡ zs
one_list [] [] a b h = refl
one_list [] (z ∷ zs) a b h = absurd (let bad : false ≡ true = h z ∙ there z zs in cc)
one_list (x ∷ xs) [] a b h = absurd (let bad : true ≡ false = sym (there x xs) ∙ h x in cc)
one_list (x ∷ xs) (z ∷ zs) a b h = one_list_at x z xs zs (slice_cmp nat_cmp x z) refl a b h (λ g. one_list xs zs a.1 b.1 g)

-- ---- what `set_by` gives

or_swap : (a b c : Bool) → (a || (b || c)) ≡ (b || (a || c))
or_swap true true c = refl
or_swap true false c = refl
or_swap false true c = refl
or_swap false false c = refl

or_same : (a c : Bool) → (a || c) ≡ (a || (a || c))
or_same true c = refl
or_same false c = refl

placed_any : (n x y : List ℕ) (ys inserted : List (List ℕ)) (o : Ordering) → slice_cmp nat_cmp x y ≡ o → list_any (bytes_eq n) inserted ≡ list_any (bytes_eq n) (x ∷ ys)
    → list_any (bytes_eq n) (placed_once o x y ys inserted) ≡ list_any (bytes_eq n) (x ∷ y ∷ ys)
placed_any n x y ys inserted Less e h = refl
placed_any n x y ys inserted Equal e h =
    let is : x ≡ y = (bytes_decides x y).0 (sym (is_eq-slice_cmp x y) ∙ ap is_eq e) in
    or_same (bytes_eq n x) (list_any (bytes_eq n) ys) ∙ ap (λ (w : List ℕ). bytes_eq n x || (bytes_eq n w || list_any (bytes_eq n) ys)) is
placed_any n x y ys inserted Greater e h = ap (λ (b : Bool). bytes_eq n y || b) h ∙ or_swap (bytes_eq n y) (bytes_eq n x) (list_any (bytes_eq n) ys)

insert_any : (n x : List ℕ) (ys : List (List ℕ)) → list_any (bytes_eq n) (insert_once (λ w. w) x ys) ≡ list_any (bytes_eq n) (x ∷ ys)
insert_any n x [] = refl
insert_any n x (y ∷ ys) = placed_any n x y ys (insert_once (λ w. w) x ys) (slice_cmp nat_cmp x y) refl (insert_any n x ys)

set_any : (n : List ℕ) (xs : List (List ℕ)) → list_any (bytes_eq n) (set_by (λ w. w) xs) ≡ list_any (bytes_eq n) xs
set_any n [] = refl
set_any n (x ∷ xs) = insert_any n x (set_by (λ w. w) xs) ∙ ap (λ (b : Bool). bytes_eq n x || b) (set_any n xs)

placed_all : (Q : List ℕ → Type 0) (x y : List ℕ) (ys inserted : List (List ℕ)) (o : Ordering) → Q x → Q y → AllByRecursion Q ys → AllByRecursion Q inserted → AllByRecursion Q (placed_once o x y ys inserted)
placed_all Q x y ys inserted Less a b c d = (a, (b, c))
placed_all Q x y ys inserted Equal a b c d = (a, c)
placed_all Q x y ys inserted Greater a b c d = (b, d)

insert_all : (Q : List ℕ → Type 0) (x : List ℕ) (ys : List (List ℕ)) → Q x → AllByRecursion Q ys → AllByRecursion Q (insert_once (λ w. w) x ys)
insert_all Q x [] a b = (a, tt)
insert_all Q x (y ∷ ys) a b = placed_all Q x y ys (insert_once (λ w. w) x ys) (slice_cmp nat_cmp x y) a b.0 b.1 (insert_all Q x ys a b.1)

placed_rises : (x y : List ℕ) (ys : List (List ℕ)) (o : Ordering) → slice_cmp nat_cmp x y ≡ o → Rises (y ∷ ys) → Rises (insert_once (λ w. w) x ys) → Rises (placed_once o x y ys (insert_once (λ w. w) x ys))
placed_rises x y ys Less e a b = ((e, before_rest x y ys e a.0), a)
placed_rises x y ys Equal e a b =
    let is : y ≡ x = sym ((bytes_decides x y).0 (sym (is_eq-slice_cmp x y) ∙ ap is_eq e)) in
    (subst (λ (w : List ℕ). AllByRecursion (λ v. slice_cmp nat_cmp w v ≡ Less) ys) is a.0, a.1)
placed_rises x y ys Greater e a b =
    let back : slice_cmp nat_cmp y x ≡ Less = nat_list_cmp_total.antisymm y x ∙ ap ordering_reverse e in
    (insert_all (λ v. slice_cmp nat_cmp y v ≡ Less) x ys back a.0, b)

insert_rises : (x : List ℕ) (ys : List (List ℕ)) → Rises ys → Rises (insert_once (λ w. w) x ys)
insert_rises x [] a = (tt, tt)
insert_rises x (y ∷ ys) a = placed_rises x y ys (slice_cmp nat_cmp x y) refl a (insert_rises x ys a.1)

set_rises : (xs : List (List ℕ)) → Rises (set_by (λ w. w) xs)
set_rises [] = tt
set_rises (x ∷ xs) = insert_rises x (set_by (λ w. w) xs) (set_rises xs)

-- ---- names that pass

filter_any : (n : List ℕ) (p : List ℕ → Bool) (xs : List (List ℕ)) → list_any (bytes_eq n) (filter p xs) ≡ (p n && list_any (bytes_eq n) xs)
filter_any n p [] = (let both : (b : Bool) → false ≡ (b && false) = λ b. elim b as (λ b. false ≡ (b && false)) [ true ↦ refl | false ↦ refl ] in both (p n))
filter_any n p (x ∷ xs) =
    elim (either (bytes_eq n x)) [
      | inl e ↦ (let is : x ≡ n = sym ((bytes_decides n x).0 e) in
          elim (either (p n)) [
            | inl g ↦ (let k : p x ≡ true = ap p is ∙ g in rw (k, e, g) refl)
            | inr g ↦ (let k : p x ≡ false = ap p is ∙ g in rw (k, g) (filter_any n p xs ∙ rw g refl))
          ])
      | inr e ↦ elim (either (p x)) [
        | inl g ↦ rw (g, e) (filter_any n p xs)
        | inr g ↦ rw (g, e) (filter_any n p xs)
      ]
    ]

-- names in order that are those of a list that pass
pub references_are : (p : List ℕ → Bool) (names used : List (List ℕ)) → Rises names → ((n : List ℕ) → list_any (bytes_eq n) names ≡ (p n && list_any (bytes_eq n) used)) → names ≡ set_by (λ full. full) (filter p used)
references_are p names used r h =
    one_list names (set_by (λ w. w) (filter p used)) r (set_rises (filter p used)) (λ n. h n ∙ sym (filter_any n p used) ∙ sym (set_any n (filter p used)))

-- a set's texts rise
pub texts_rise : (ks : List (String Global)) → IsStrictlySortedBy string_cmp ks → Rises (map string_bytes ks)
unfolding IsStrictlySortedBy
texts_rise [] h = tt
texts_rise (k ∷ ks) h = (texts_all k ks h.0, texts_rise ks h.1)
  where
    texts_all : (k : String Global) (xs : List (String Global)) → AllByRecursion (λ y. string_cmp k y ≡ Less) xs → AllByRecursion (λ y. slice_cmp nat_cmp (string_bytes k) y ≡ Less) (map string_bytes xs)
    texts_all k [] h = tt
    texts_all k (x ∷ xs) h = (h.0, texts_all k xs h.1)

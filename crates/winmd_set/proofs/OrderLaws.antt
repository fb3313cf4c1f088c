-- Declarations in the order of their full names are those of a list that has each name once.
use Rattle.std.proofs.Common.{◌≡◌, ℕ, zero, suc, ◌+◌, ◌≤◌, Bool, true, false, cond, List, [], ◌∷◌, map, length, get_or, Contains, ◌⊎◌, inl, inr, refl, sym, ap, subst, ◌∙◌, arith, add-one}
use Rattle.std.specs.Prelude.{⊤, ◌||◌}
use Rattle.std.specs.declared.cmp.Ordering.{Ordering}
use Rattle.std.specs.declared.cmp.Ordering.TheVariants.{Less, Equal, Greater}
use Rattle.std.specs.Ordering.{nat_cmp, is_eq, ordering_reverse}
use Rattle.std.specs.Str.{bytes_eq}
use Rattle.std.specs.Cmp.Lexicographic.{slice_cmp, bytes_decides, nat_list_cmp_total}
use Rattle.std.specs.List.{list_any, AllByRecursion, AllAdjacentBelow}
use Rattle.std.specs.List.Sorted.{IsPermutation}
use Rattle.std.proofs.lemmas.List.Sums.{sum_by-cons}
use Rattle.std.proofs.lemmas.List.Sorted.{Contains-permutation, IsPermutation-sym}
use Rattle.std.proofs.lemmas.Map.Text.{is_eq-slice_cmp}
use Rattle.wr_base.specs.declared.declaration.Declaration.{Declaration}
use Rattle.wr_base.specs.Declarations as declared
use Rattle.wr_base.specs.Normal.{normal}
use Rattle.wr_base.specs.Trees.{DeclTree, decl_tree, name_of}
use Rattle.wr_base.proofs.OrderLaws.{one_order}
use Rattle.wr_base.proofs.TreeLaws.{name_of-decl_tree}
use Rattle.winmd_lines.specs.Orders.{insert_once, placed_once, set_by}
use Rattle.winmd_set.specs.declared.stated.Stated.{Stated}
use Rattle.winmd_set.specs.Order.{AllOnce}
use Rattle.winmd_set.specs.Stated.{set_tree, stated_seen}
use Rattle.winmd_set.proofs.CountLaws.{name_seen}

abbrev cmp : List ℕ → List ℕ → Ordering
cmp a b = slice_cmp nat_cmp a b

in_front : {X : Type 0} (x : X) (xs : List X) → Contains (x ∷ xs) x
in_front x xs = (0, omega arith, refl)

in_back : {X : Type 0} (y : X) (xs : List X) (z : X) → Contains xs z → Contains (y ∷ xs) z
in_back y xs z (k, l, e) = (suc k, omega (arith, l), e)

parted : {X : Type 0} (x : X) (xs : List X) (z : X) → Contains (x ∷ xs) z → (x ≡ z) ⊎ Contains xs z
parted x xs z (zero, l, e) = inl e
parted x xs z (suc k, l, e) = inr (k, omega (arith, l), e)

none_there : {X : Type 0} (z : X) → Contains [] z → ⊥
none_there z (k, l, e) = omega (arith, l)

all_of : {X : Type 0} (P Q : X → Type 0) (xs : List X) → ((z : X) → P z → Q z) → AllByRecursion P xs → AllByRecursion Q xs
all_of P Q [] f h = tt
all_of P Q (x ∷ xs) f h = (f x h.0, all_of P Q xs f h.1)

self_contained : {X : Type 0} (xs : List X) → AllByRecursion (Contains xs) xs
self_contained [] = tt
self_contained (x ∷ xs) = (in_front x xs, all_of (Contains xs) (Contains (x ∷ xs)) xs (λ z c. in_back x xs z c) (self_contained xs))

inside : {X : Type 0} (P : X → Type 0) (xs : List X) (z : X) → AllByRecursion P xs → Contains xs z → P z
inside P [] z a c = absurd (none_there z c)
inside P (x ∷ xs) z a c = elim (parted x xs z c) [
  | inl e ↦ subst P e a.0
  | inr d ↦ inside P xs z a.1 d
]

module _ {X : Type 0} (key : X → List ℕ) where
  abbrev Below : X → X → Type 0
  Below x y = slice_cmp nat_cmp (key x) (key y) ≡ Less

  -- ---- what holds of all holds of those in order

  placed_all : (Q : X → Type 0) (x y : X) (ys inserted : List X) (o : Ordering) → Q x → Q y → AllByRecursion Q ys → AllByRecursion Q inserted → AllByRecursion Q (placed_once o x y ys inserted)
  placed_all Q x y ys inserted Less a b c d = (a, (b, c))
  placed_all Q x y ys inserted Equal a b c d = (a, c)
  placed_all Q x y ys inserted Greater a b c d = (b, d)

  insert_all : (Q : X → Type 0) (x : X) (ys : List X) → Q x → AllByRecursion Q ys → AllByRecursion Q (insert_once key x ys)
  insert_all Q x [] a b = (a, tt)
  insert_all Q x (y ∷ ys) a b = placed_all Q x y ys (insert_once key x ys) (cmp (key x) (key y)) a b.0 b.1 (insert_all Q x ys a b.1)

  set_all : (Q : X → Type 0) (xs : List X) → AllByRecursion Q xs → AllByRecursion Q (set_by key xs)
  set_all Q [] h = tt
  set_all Q (x ∷ xs) h = insert_all Q x (set_by key xs) h.0 (set_all Q xs h.1)

  set_within : (xs : List X) (z : X) → Contains (set_by key xs) z → Contains xs z
  set_within xs z c = inside (Contains xs) (set_by key xs) z (set_all (Contains xs) xs (self_contained xs)) c

  -- ---- those in order rise

  abbrev Up : List X → Type 0
  Up [] = ⊤
  Up (x ∷ xs) = AllByRecursion (Below x) xs × Up xs

  placed_up : (x y : X) (ys inserted : List X) (o : Ordering) → cmp (key x) (key y) ≡ o → Up (y ∷ ys) → Up inserted → ((Q : X → Type 0) → Q x → AllByRecursion Q ys → AllByRecursion Q inserted) → Up (placed_once o x y ys inserted)
  placed_up x y ys inserted Less e a b all = ((e, all_of (Below y) (Below x) ys (λ z l. nat_list_cmp_total.trans (key x) (key y) (key z) e l) a.0), a)
  placed_up x y ys inserted Equal e a b all =
      let is : key y ≡ key x = sym ((bytes_decides (key x) (key y)).0 (sym (is_eq-slice_cmp (key x) (key y)) ∙ ap is_eq e)) in
      (all_of (Below y) (Below x) ys (λ z l. subst (λ (w : List ℕ). slice_cmp nat_cmp w (key z) ≡ Less) is l) a.0, a.1)
  placed_up x y ys inserted Greater e a b all =
      let back : slice_cmp nat_cmp (key y) (key x) ≡ Less = nat_list_cmp_total.antisymm (key y) (key x) ∙ ap ordering_reverse e in
      (all (Below y) back a.0, b)

  insert_up : (x : X) (ys : List X) → Up ys → Up (insert_once key x ys)
  insert_up x [] a = (tt, tt)
  insert_up x (y ∷ ys) a = placed_up x y ys (insert_once key x ys) (cmp (key x) (key y)) refl a (insert_up x ys a.1) (λ Q q h. insert_all Q x ys q h)

  set_up : (xs : List X) → Up (set_by key xs)
  set_up [] = tt
  set_up (x ∷ xs) = insert_up x (set_by key xs) (set_up xs)

  get_tail : (x : X) (xs : List X) (k : ℕ) (d : X) → get_or (x ∷ xs) (k + 1) d ≡ get_or xs k d
  get_tail x xs k d = ap (λ m. get_or (x ∷ xs) m d) (add-one k)

  up_rises : (xs : List X) → Up xs → AllAdjacentBelow Below xs (length xs)
  up_rises [] h k d l = absurd (omega (arith, l))
  up_rises (x ∷ []) h k d l = absurd (omega (arith, l))
  up_rises (x ∷ y ∷ ys) h zero d l = h.0.0
  up_rises (x ∷ y ∷ ys) h (suc k) d l =
      let r : Below (get_or (y ∷ ys) k d) (get_or (y ∷ ys) (k + 1) d) = up_rises (y ∷ ys) h.1 k d (omega (arith, l)) in
      subst (λ z. Below (get_or (y ∷ ys) k d) z) (sym (get_tail x (y ∷ ys) (k + 1) d) ∙ ap (λ m. get_or (x ∷ y ∷ ys) m d) (omega arith)) r

  -- ---- each whose key stands once is among those in order

  insert_new : (x : X) (ys : List X) → Contains (insert_once key x ys) x
  insert_new x [] = in_front x []
  insert_new x (y ∷ ys) = placed_new (cmp (key x) (key y)) (insert_new x ys)
    where
      placed_new : (o : Ordering) → Contains (insert_once key x ys) x → Contains (placed_once o x y ys (insert_once key x ys)) x
      placed_new Less c = in_front x (y ∷ ys)
      placed_new Equal c = in_front x ys
      placed_new Greater c = in_back y (insert_once key x ys) x c

  placed_old : (x y z : X) (ys inserted : List X) (o : Ordering) → cmp (key x) (key y) ≡ o → bytes_eq (key x) (key z) ≡ false → (y ≡ z) ⊎ Contains ys z → (Contains ys z → Contains inserted z) → Contains (placed_once o x y ys inserted) z
  placed_old x y z ys inserted Less e n (inl s) f = in_back x (y ∷ ys) z (0, omega arith, s)
  placed_old x y z ys inserted Less e n (inr c) f = in_back x (y ∷ ys) z (in_back y ys z c)
  placed_old x y z ys inserted Equal e n (inl s) f =
      let yes : bytes_eq (key x) (key z) ≡ true = ap (λ (w : X). bytes_eq (key x) (key w)) (sym s) ∙ sym (is_eq-slice_cmp (key x) (key y)) ∙ ap is_eq e in
      absurd (let bad : true ≡ false = sym yes ∙ n in cc)
  placed_old x y z ys inserted Equal e n (inr c) f = in_back x ys z c
  placed_old x y z ys inserted Greater e n (inl s) f = (0, omega arith, s)
  placed_old x y z ys inserted Greater e n (inr c) f = in_back y inserted z (f c)

  insert_old : (x : X) (ys : List X) (z : X) → bytes_eq (key x) (key z) ≡ false → Contains ys z → Contains (insert_once key x ys) z
  insert_old x [] z n c = absurd (none_there z c)
  insert_old x (y ∷ ys) z n c = placed_old x y z ys (insert_once key x ys) (cmp (key x) (key y)) refl n (parted y ys z c) (λ d. insert_old x ys z n d)

  -- no later one has the key of one
  abbrev Once : List X → Type 0
  Once [] = ⊤
  Once (x ∷ xs) = (list_any (λ e. bytes_eq (key x) (key e)) xs ≡ false) × Once xs

  or_none : (b c : Bool) → (b || c) ≡ false → (b ≡ false) × (c ≡ false)
  or_none false c e = (refl, e)
  or_none true c e = absurd (let bad : true ≡ false = e in cc)

  not_among : (x : X) (xs : List X) (z : X) → list_any (λ e. bytes_eq (key x) (key e)) xs ≡ false → Contains xs z → bytes_eq (key x) (key z) ≡ false
  not_among x [] z n c = absurd (none_there z c)
  not_among x (y ∷ ys) z n c =
      let both = or_none (bytes_eq (key x) (key y)) (list_any (λ e. bytes_eq (key x) (key e)) ys) n in
      elim (parted y ys z c) [
        | inl s ↦ subst (λ (w : X). bytes_eq (key x) (key w) ≡ false) s both.0
        | inr d ↦ not_among x ys z both.1 d
      ]

  set_has : (xs : List X) (z : X) → Once xs → Contains xs z → Contains (set_by key xs) z
  set_has [] z h c = c
  set_has (x ∷ xs) z h c = elim (parted x xs z c) [
    | inl s ↦ subst (λ (w : X). Contains (insert_once key x (set_by key xs)) w) s (insert_new x (set_by key xs))
    | inr d ↦ insert_old x (set_by key xs) z (not_among x xs z h.0 d) (set_has xs z h.1 d)
  ]

  -- a list in order that has the same elements
  moved_is : (xs ys : List X) → Once xs → IsPermutation xs ys → AllAdjacentBelow Below ys (length ys) → ys ≡ set_by key xs
  moved_is xs ys once moved rises =
      one_order key ys (set_by key xs) rises (up_rises (set_by key xs) (set_up xs))
      (λ z c. set_has xs z once (Contains-permutation ys xs z (IsPermutation-sym xs ys moved) c))
      (λ z c. Contains-permutation xs ys z moved (set_within xs z c))

-- ---- the trees of these

module _ {X Y : Type 0} (f : X → Y) (key : X → List ℕ) (own : Y → List ℕ) (same : (x : X) → own (f x) ≡ key x) where
  placed_map : (x y : X) (ys inserted : List X) (o : Ordering) → placed_once o (f x) (f y) (map f ys) (map f inserted) ≡ map f (placed_once o x y ys inserted)
  placed_map x y ys inserted Less = refl
  placed_map x y ys inserted Equal = refl
  placed_map x y ys inserted Greater = refl

  insert_map : (x : X) (ys : List X) → insert_once own (f x) (map f ys) ≡ map f (insert_once key x ys)
  insert_map x [] = refl
  insert_map x (y ∷ ys) =
      ap (λ (a : List ℕ). placed_once (slice_cmp nat_cmp a (own (f y))) (f x) (f y) (map f ys) (insert_once own (f x) (map f ys))) (same x)
      ∙ ap (λ (a : List ℕ). placed_once (slice_cmp nat_cmp (key x) a) (f x) (f y) (map f ys) (insert_once own (f x) (map f ys))) (same y)
      ∙ ap (λ (r : List Y). placed_once (slice_cmp nat_cmp (key x) (key y)) (f x) (f y) (map f ys) r) (insert_map x ys)
      ∙ placed_map x y ys (insert_once key x ys) (slice_cmp nat_cmp (key x) (key y))

  set_map : (xs : List X) → set_by own (map f xs) ≡ map f (set_by key xs)
  set_map [] = refl
  set_map (x ∷ xs) = ap (insert_once own (f x)) (set_map xs) ∙ insert_map x (set_by key xs)

-- ---- what rows state

abbrev declarations_of : List Stated → List Declaration
declarations_of list = map (λ s. s.declaration) list

trees_are : (list : List Stated) → map decl_tree (map normal (declarations_of list)) ≡ map (λ e. e.1) (map stated_seen list)
trees_are [] = refl
trees_are (s ∷ list) = ap (λ (ts : List DeclTree). set_tree s.declaration ∷ ts) (trees_are list)

any_same : (name other : List ℕ) (list : List Stated) → name ≡ other → list_any (λ e. bytes_eq name (name_of e.1)) (map stated_seen list) ≡ list_any (λ e. bytes_eq other (declared.name_of e)) (map normal (declarations_of list))
any_same name other [] e = refl
any_same name other (s ∷ list) e =
    ap (λ (n : List ℕ). bytes_eq n (name_of (set_tree s.declaration)) || list_any (λ e. bytes_eq name (name_of e.1)) (map stated_seen list)) e
    ∙ ap (λ (n : List ℕ). bytes_eq other n || list_any (λ e. bytes_eq name (name_of e.1)) (map stated_seen list)) (name_of-decl_tree (normal s.declaration))
    ∙ ap (λ (b : Bool). bytes_eq other (declared.name_of (normal s.declaration)) || b) (any_same name other list e)

once_named : (list : List Stated) → AllOnce (map stated_seen list) → Once declared.name_of (map normal (declarations_of list))
once_named [] h = tt
once_named (s ∷ list) h =
    (sym (any_same (name_of (set_tree s.declaration)) (declared.name_of (normal s.declaration)) list (name_of-decl_tree (normal s.declaration))) ∙ h.0, once_named list h.1)

-- in the order of full names they are the set of what rows state
pub ordered : (list : List Stated) (types : List Declaration) → AllOnce (map stated_seen list) → IsPermutation (map normal (declarations_of list)) types → declared.IsInOrder types
    → map decl_tree types ≡ set_by name_of (map (λ e. e.1) (map stated_seen list))
ordered list types once moved order =
    let ds : List Declaration = map normal (declarations_of list) in
    ap (map decl_tree) (moved_is declared.name_of ds types (once_named list once) moved order.rises) ∙ sym (set_map decl_tree declared.name_of name_of name_of-decl_tree ds) ∙ ap (set_by name_of) (trees_are list)

-- ---- no full name stands twice

none_left : (name : List ℕ) (list : List Stated) → list_any (λ e. bytes_eq name (name_of e.1)) (map stated_seen list) ≡ false → declared.times (declarations_of list) name ≡ 0
none_left name [] h = refl
none_left name (s ∷ list) h =
    let both = or_none declared.name_of (bytes_eq name (name_of (set_tree s.declaration))) (list_any (λ e. bytes_eq name (name_of e.1)) (map stated_seen list)) h in
    let apart : bytes_eq (declared.name_of s.declaration) name ≡ false = turned (declared.name_of s.declaration) name (ap (bytes_eq name) (sym (name_seen s.declaration)) ∙ both.0) in
    let rest : declared.times (declarations_of list) name ≡ 0 = none_left name list both.1 in
    sum_by-cons (λ (d : Declaration). cond (bytes_eq (declared.name_of d) name) 1 0) s.declaration (declarations_of list) ∙ ap (λ (b : Bool). cond b 1 0 + declared.times (declarations_of list) name) apart ∙ omega (arith, rest)
  where
    turned : (a b : List ℕ) → bytes_eq b a ≡ false → bytes_eq a b ≡ false
    turned a b h = elim (bytes_eq a b) as (λ v. bytes_eq a b ≡ v → v ≡ false) [
      | true ↦ λ e. absurd (let yes : bytes_eq b a ≡ true = (bytes_decides b a).1 (sym ((bytes_decides a b).0 e)) in let bad : true ≡ false = sym yes ∙ h in cc)
      | false ↦ λ e. refl
    ] refl

pub never_twice : (list : List Stated) → AllOnce (map stated_seen list) → (name : List ℕ) → declared.times (declarations_of list) name ≤ 1
never_twice [] h name = omega arith
never_twice (s ∷ list) h name =
    let more = sum_by-cons (λ (d : Declaration). cond (bytes_eq (declared.name_of d) name) 1 0) s.declaration (declarations_of list) in
    elim (bytes_eq (declared.name_of s.declaration) name) as (λ b. bytes_eq (declared.name_of s.declaration) name ≡ b → declared.times (declarations_of (s ∷ list)) name ≤ 1) [
      | true ↦ λ e. (
          let is : name_of (set_tree s.declaration) ≡ name = name_seen s.declaration ∙ (bytes_decides (declared.name_of s.declaration) name).0 e in
          let none : declared.times (declarations_of list) name ≡ 0 =
          none_left name list (subst (λ (n : List ℕ). list_any (λ e. bytes_eq n (name_of e.1)) (map stated_seen list) ≡ false) is h.0) in
          omega (arith, more, ap (λ (b : Bool). cond {A = ℕ} b 1 0) e, none))
      | false ↦ λ e. (let rest = never_twice list h.1 name in omega (arith, more, ap (λ (b : Bool). cond {A = ℕ} b 1 0) e, rest))
    ] refl

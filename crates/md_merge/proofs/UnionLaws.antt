-- Of a list in the order of names one declaration of each name is a union, where neighbours of one name are one.
use Rattle.std.proofs.Common.{◌≡◌, ℕ, zero, suc, ◌+◌, ◌-◌, ◌*◌, ◌<◌, ◌≤◌, ◌^◌, ◌⊎◌, inl, inr, ⊎_elim, true, false, cond, List, [], ◌∷◌, ◌++◌, Some, Contains, length, map, get_or, slice_get, take, is_lt, refl, sym, ap, subst, ◌∙◌, arith, add-one, append_assoc, true≢false}
use Rattle.std.specs.Prelude.{fold}
use Rattle.std.specs.declared.cmp.Ordering.{Ordering}
use Rattle.std.specs.declared.cmp.Ordering.TheVariants.{Less, Equal, Greater}
use Rattle.std.specs.Ordering.{nat_cmp, ordering_reverse}
use Rattle.std.specs.Cmp.Lexicographic.{slice_cmp, nat_list_cmp_total, bytes_decides}
use Rattle.std.specs.List.{All, AllAdjacentBelow, sum_by}
use Rattle.std.specs.List.Sorted.{IsPermutation, IsSortedByKey}
use Rattle.std.specs.Str.{bytes_eq}
use Rattle.std.proofs.Math.Seq.{get_or-append_seam}
use Rattle.std.proofs.lemmas.Option.{slice_get-get_or, slice_get_within, get_or_from_slice_get}
use Rattle.std.proofs.lemmas.List.{length-append, take_more}
use Rattle.std.proofs.lemmas.List.Elements.{All-nil, All-cons, All-append, All-head, All-tail, All-contains}
use Rattle.std.proofs.lemmas.List.Sorted.{Contains-permutation, IsPermutation-sym, length_permutation, sum_by-IsPermutation}
use Rattle.std.proofs.lemmas.List.Sums.{sum_by-cons}
use Rattle.ranked.specs.declared.stop.Stop.{Stop}
use Rattle.ranked.specs.declared.stop.Stop.TheVariants.{Refused, Memory}
use Rattle.wr_base.proofs.TypesLemmas.{same_text}
use Rattle.wr_base.proofs.TwiceLemmas.{rises_once}
use Rattle.wr_base.specs.Declarations.{name_of, Precedes, IsInOrder, IsLeastTwice}
use Rattle.wr_base.specs.Normal.{normal}
use Rattle.wr_base.specs.Places.{total, part_count}
use Rattle.wr_base.specs.declared.declaration.Declaration.{Declaration}
use Rattle.md_merge.specs.Neighbours.{AllAgree, FirstDiffers, ListAgrees, ListDiffers, is_named, put, firsts}
use Rattle.md_merge.specs.Unions.{all_of, IsNormal, IsUnion, LeastConflict, OnRefused}

abbrev text_cmp : List ℕ → List ℕ → Ordering
text_cmp = slice_cmp nat_cmp

-- ---- one text is no later than another

abbrev Le : List ℕ → List ℕ → Type 0
Le a b = (text_cmp a b ≡ Less) ⊎ (a ≡ b)

le_by : (a b : List ℕ) (r : Ordering) → text_cmp a b ≡ r → is_lt (text_cmp b a) ≡ false → Le a b
le_by a b Less e n = inl e
le_by a b Equal e n = inr (same_text a b e)
le_by a b Greater e n = absurd (true≢false (sym (ap is_lt (nat_list_cmp_total.antisymm b a ∙ ap ordering_reverse e)) ∙ n))

not_both : (a b : List ℕ) → text_cmp a b ≡ Less → text_cmp b a ≡ Less → ⊥
not_both a b l m = cc (sym l ∙ nat_list_cmp_total.antisymm a b ∙ ap ordering_reverse m)

le_trans : (a b c : List ℕ) → Le a b → Le b c → Le a c
le_trans a b c (inl l) (inl m) = inl (nat_list_cmp_total.trans a b c l m)
le_trans a b c (inl l) (inr e) = inl (subst (λ x. text_cmp a x ≡ Less) e l)
le_trans a b c (inr e) h = subst (λ x. Le x c) (sym e) h

le_less : (a b : List ℕ) → Le a b → text_cmp b a ≡ Less → ⊥
le_less a b (inl l) m = not_both a b l m
le_less a b (inr e) m = not_both a a (subst (λ x. text_cmp x a ≡ Less) (sym e) m) (subst (λ x. text_cmp x a ≡ Less) (sym e) m)

between : (a b c : List ℕ) → Le a b → Le b c → a ≡ c → a ≡ b
between a b c (inr e) h s = e
between a b c (inl l) h s = absurd (le_less b a (subst (Le b) (sym s) h) l)

-- ---- lists in order, by recursion

abbrev Ordered : Declaration → List Declaration → Type 0
Ordered d [] = Unit {0}
Ordered d (e ∷ es) = Le (name_of d) (name_of e) × Ordered e es

get_tail : {X : Type 0} (x : X) (xs : List X) (k : ℕ) (d : X) → get_or (x ∷ xs) (k + 1) d ≡ get_or xs k d
get_tail x xs k d = ap (λ m. get_or (x ∷ xs) m d) (add-one k)

tail_sorted : (x : Declaration) (xs : List Declaration) → IsSortedByKey name_of text_cmp (x ∷ xs) → IsSortedByKey name_of text_cmp xs
tail_sorted x xs s k d low high =
    subst (λ z. is_lt (text_cmp (name_of (get_or xs (k + 1) d)) (name_of z)) ≡ false) (get_tail x xs k d)
    (subst (λ z. is_lt (text_cmp (name_of z) (name_of (get_or (x ∷ xs) (k + 1) d))) ≡ false) (get_tail x xs (k + 1) d) (s (k + 1) d (omega arith) (omega (arith, high))))

ordered : (d : Declaration) (es : List Declaration) → IsSortedByKey name_of text_cmp (d ∷ es) → Ordered d es
ordered d [] s = tt
ordered d (e ∷ es) s = (le_by (name_of d) (name_of e) (text_cmp (name_of d) (name_of e)) refl (s 0 d (omega arith) (omega arith)), ordered e es (tail_sorted d (e ∷ es) s))

ordered_as : (d e : Declaration) (es : List Declaration) → name_of e ≡ name_of d → Ordered e es → Ordered d es
ordered_as d e [] n h = tt
ordered_as d e (x ∷ xs) n h = (subst (λ a. Le a (name_of x)) n h.0, h.1)

-- ---- elements

abbrev In : Declaration → List Declaration → Type 0
In x [] = ⊥
In x (y ∷ ys) = (x ≡ y) ⊎ In x ys

in_list : (xs : List Declaration) (x : Declaration) → Contains xs x → In x xs
in_list [] x (k, l, e) = absurd (omega (arith, l))
in_list (y ∷ ys) x (zero, l, e) = inl (sym e)
in_list (y ∷ ys) x (suc k, l, e) = inr (in_list ys x (k, omega (arith, l), e))

contained : (xs : List Declaration) (x : Declaration) → In x xs → Contains xs x
contained [] x i = absurd i
contained (y ∷ ys) x (inl e) = (zero, omega arith, sym e)
contained (y ∷ ys) x (inr i) = let c = contained ys x i in (suc c.0, (let l = c.1 in omega (arith, l)), c.2)

no_earlier : (d : Declaration) (es : List Declaration) (x : Declaration) → Ordered d es → In x (d ∷ es) → Le (name_of d) (name_of x)
no_earlier d es x h (inl e) = inr (ap name_of (sym e))
no_earlier d [] x h (inr i) = absurd i
no_earlier d (e ∷ es) x h (inr i) = le_trans (name_of d) (name_of e) (name_of x) h.0 (no_earlier e es x h.1 i)

-- ---- one of each name

abbrev others : Declaration → List Declaration → List Declaration
others d [] = []
others d (e ∷ es) = cond (bytes_eq (name_of d) (name_of e)) (others d es) (e ∷ others e es)

last_is : (done : List Declaration) (d : Declaration) → slice_get (done ++ d ∷ []) (length (done ++ d ∷ []) - 1) ≡ Some d
last_is done d =
    let long : length (done ++ d ∷ []) ≡ length done + 1 = length-append done (d ∷ []) in
    let at : length (done ++ d ∷ []) - 1 ≡ length done = omega (arith, long) in
    ap (slice_get (done ++ d ∷ [])) at ∙ slice_get-get_or (done ++ d ∷ []) (length done) d (omega (arith, long)) ∙ ap Some (get_or-append_seam done d [] d)

put_is : (done : List Declaration) (d e : Declaration) → put (done ++ d ∷ []) e ≡ cond (bytes_eq (name_of d) (name_of e)) (done ++ d ∷ []) ((done ++ d ∷ []) ++ e ∷ [])
put_is done d e = ap (λ o. cond (is_named o (name_of e)) (done ++ d ∷ []) ((done ++ d ∷ []) ++ e ∷ [])) (last_is done d)

kept : (done : List Declaration) (d : Declaration) (es : List Declaration) → fold put (done ++ d ∷ []) es ≡ done ++ d ∷ others d es
kept done d [] = refl
kept done d (e ∷ es) =
    ap (λ list. fold put list es) (put_is done d e)
    ∙ (elim (bytes_eq (name_of d) (name_of e)) as (λ b. fold put (cond b (done ++ d ∷ []) ((done ++ d ∷ []) ++ e ∷ [])) es ≡ done ++ d ∷ cond b (others d es) (e ∷ others e es)) [
      | true ↦ kept done d es
      | false ↦ kept (done ++ d ∷ []) e es ∙ append_assoc done (d ∷ []) (e ∷ others e es)
    ])

firsts_is : (d : Declaration) (ds : List Declaration) → firsts (d ∷ ds) ≡ d ∷ others d ds
firsts_is d ds = kept [] d ds

-- ---- their order

abbrev Rises : Declaration → List Declaration → Type 0
Rises d [] = Unit {0}
Rises d (e ∷ es) = (text_cmp (name_of d) (name_of e) ≡ Less) × Rises e es

others_rise : (d : Declaration) (es : List Declaration) → Ordered d es → Rises d (others d es)
others_rise d [] h = tt
others_rise d (e ∷ es) h = elim (bytes_eq (name_of d) (name_of e)) as (λ b. bytes_eq (name_of d) (name_of e) ≡ b → Rises d (cond b (others d es) (e ∷ others e es))) [
  | true ↦ λ q. others_rise d es (ordered_as d e es (sym ((bytes_decides (name_of d) (name_of e)).0 q)) h.1)
  | false ↦ λ q. (⊎_elim (λ l. l) (λ s. absurd (true≢false (sym ((bytes_decides (name_of d) (name_of e)).1 s) ∙ q))) h.0, others_rise e es h.1)
] refl

adjacent : (d : Declaration) (es : List Declaration) → Rises d es → AllAdjacentBelow Precedes (d ∷ es) (length (d ∷ es))
adjacent d [] r k x high = absurd (omega (arith, high))
adjacent d (e ∷ es) r zero x high = r.0
adjacent d (e ∷ es) r (suc k) x high =
    subst (λ z. Precedes (get_or (e ∷ es) k x) z) (sym (get_tail d (e ∷ es) (suc k) x) ∙ refl)
    (subst (λ m. Precedes (get_or (e ∷ es) k x) (get_or (e ∷ es) m x)) (add-one k) (adjacent e es r.1 k x (omega (arith, high))))

-- ---- their elements

others_within : (d : Declaration) (es : List Declaration) (x : Declaration) → In x (others d es) → In x es
others_within d [] x i = i
others_within d (e ∷ es) x i = elim (bytes_eq (name_of d) (name_of e)) as (λ b. In x (cond b (others d es) (e ∷ others e es)) → In x (e ∷ es)) [
  | true ↦ λ j. inr (others_within d es x j)
  | false ↦ λ j. ⊎_elim (λ s. inl s) (λ r. inr (others_within e es x r)) j
] i

others_whole : (d : Declaration) (es : List Declaration) (x : Declaration) → AllAgree d es → In x es → (x ≡ d) ⊎ In x (others d es)
others_whole d [] x a i = absurd i
others_whole d (e ∷ es) x a i = elim (bytes_eq (name_of d) (name_of e)) as (λ b. bytes_eq (name_of d) (name_of e) ≡ b → (x ≡ d) ⊎ In x (cond b (others d es) (e ∷ others e es))) [
  | true ↦ λ q.
      (let s : d ≡ e = a.0 ((bytes_decides (name_of d) (name_of e)).0 q) in
      ⊎_elim (λ p. inl (p ∙ sym s)) (λ r. others_whole d es x (subst (λ z. AllAgree z es) (sym s) a.1) r) i)
  | false ↦ λ q. inr (⊎_elim (λ p. inl p) (λ r. others_whole e es x a.1 r) i)
] refl

-- ---- how many

fewer : (d : Declaration) (es : List Declaration) → length (others d es) ≤ length es
fewer d [] = omega arith
fewer d (e ∷ es) = elim (bytes_eq (name_of d) (name_of e)) as (λ b. length (cond b (others d es) (e ∷ others e es)) ≤ suc (length es)) [
  | true ↦ omega (arith, fewer d es)
  | false ↦ omega (arith, fewer e es)
]

smaller : (d : Declaration) (es : List Declaration) → total (others d es) ≤ total es
smaller d [] = omega arith
smaller d (e ∷ es) = elim (bytes_eq (name_of d) (name_of e)) as (λ b. total (cond b (others d es) (e ∷ others e es)) ≤ 1 + part_count e + total es) [
  | true ↦ omega (arith, smaller d es)
  | false ↦ omega (arith, smaller e es)
]

length_total : (ds : List Declaration) → length ds ≤ total ds
length_total [] = omega arith
length_total (d ∷ ds) = omega (arith, length_total ds)

total_sum : (ds : List Declaration) → total ds ≡ sum_by (λ d. 1 + part_count d) ds
total_sum [] = refl
total_sum (d ∷ ds) = omega (arith, total_sum ds, sum_by-cons (λ d. 1 + part_count d) d ds)

same_total : (xs ys : List Declaration) → IsPermutation xs ys → total ys ≡ total xs
same_total xs ys p = total_sum ys ∙ sum_by-IsPermutation (λ d. 1 + part_count d) xs ys p ∙ sym (total_sum xs)

-- ---- neighbours that differ

record Pair (xs : List Declaration) (name : List ℕ) : Type 0 where
  one : Declaration
  other : Declaration
  one_in : In one xs
  other_in : In other xs
  one_named : name_of one ≡ name
  other_named : name_of other ≡ name
  apart : one ≡ other → ⊥

pair_of : (d : Declaration) (es : List Declaration) (name : List ℕ) → FirstDiffers d es name → Pair (d ∷ es) name
pair_of d [] name h = absurd h
pair_of d (e ∷ es) name (inl (h, n)) = record { one = d; other = e; one_in = inl refl; other_in = inr (inl refl); one_named = n; other_named = sym h.named ∙ n; apart = h.apart }
pair_of d (e ∷ es) name (inr (a, h)) = let p = pair_of e es name h in record { one = p.one; other = p.other; one_in = inr p.one_in; other_in = inr p.other_in; one_named = p.one_named; other_named = p.other_named; apart = p.apart }

-- of a lesser name all are one
one_below : (d : Declaration) (es : List Declaration) (name o : List ℕ) → Ordered d es → FirstDiffers d es name → text_cmp o name ≡ Less → (a b : Declaration) → In a (d ∷ es) → In b (d ∷ es) → name_of a ≡ o → name_of b ≡ o → a ≡ b
one_below d [] name o h f l a b i j p q = absurd f
one_below d (e ∷ es) name o h (inl (g, n)) l a b i j p q =
    absurd (le_less name o (subst (λ x. Le x o) n (subst (Le (name_of d)) p (no_earlier d (e ∷ es) a h i))) l)
one_below d (e ∷ es) name o h (inr (g, f)) l a b (inl s) (inl t) p q = s ∙ sym t
one_below d (e ∷ es) name o h (inr (g, f)) l a b (inl s) (inr j) p q =
    let one : name_of d ≡ name_of b = sym (ap name_of s) ∙ p ∙ sym q in
    let same : d ≡ e = g (between (name_of d) (name_of e) (name_of b) h.0 (no_earlier e es b h.1 j) one) in
    one_below e es name o h.1 f l a b (inl (s ∙ same)) j p q
one_below d (e ∷ es) name o h (inr (g, f)) l a b (inr i) (inl t) p q =
    let one : name_of d ≡ name_of a = sym (ap name_of t) ∙ q ∙ sym p in
    let same : d ≡ e = g (between (name_of d) (name_of e) (name_of a) h.0 (no_earlier e es a h.1 i) one) in
    one_below e es name o h.1 f l a b i (inl (t ∙ same)) p q
one_below d (e ∷ es) name o h (inr (g, f)) l a b (inr i) (inr j) p q = one_below e es name o h.1 f l a b i j p q

-- ---- of all declarations in order

into : (sets : List (List Declaration)) (list : List Declaration) → IsPermutation (all_of sets) list → (x : Declaration) → Contains (all_of sets) x → In x list
into sets list moved x c = in_list list x (Contains-permutation (all_of sets) list x moved c)

out_of : (sets : List (List Declaration)) (list : List Declaration) → IsPermutation (all_of sets) list → (x : Declaration) → In x list → Contains (all_of sets) x
out_of sets list moved x i = Contains-permutation list (all_of sets) x (IsPermutation-sym (all_of sets) list moved) (contained list x i)

-- the first neighbours that differ have the least name of which two declarations differ
pub conflict_of : (sets : List (List Declaration)) (list : List Declaration) (name : List ℕ) → IsPermutation (all_of sets) list → IsSortedByKey name_of text_cmp list → ListDiffers list name → LeastConflict sets name
conflict_of sets [] name moved sorted f = absurd f
conflict_of sets (d ∷ es) name moved sorted f =
    let p = pair_of d es name f in
    record {
      stands = record {
        one = p.one;
        other = p.other;
        one_declared = out_of sets (d ∷ es) moved p.one p.one_in;
        other_declared = out_of sets (d ∷ es) moved p.other p.other_in;
        one_named = p.one_named;
        other_named = p.other_named;
        apart = p.apart;
      };
      least = λ o l c. c.apart (one_below d es name o (ordered d es sorted) f l c.one c.other (into sets (d ∷ es) moved c.one c.one_declared) (into sets (d ∷ es) moved c.other c.other_declared) c.one_named c.other_named);
    }

firsts_rise : (list : List Declaration) → IsSortedByKey name_of text_cmp list → AllAdjacentBelow Precedes (firsts list) (length (firsts list))
firsts_rise [] sorted = λ k d high. absurd (omega (arith, high))
firsts_rise (d ∷ es) sorted = subst (λ xs. AllAdjacentBelow Precedes xs (length xs)) (sym (firsts_is d es)) (adjacent d (others d es) (others_rise d es (ordered d es sorted)))

firsts_fewer : (list : List Declaration) → length (firsts list) ≤ length list
firsts_fewer [] = omega arith
firsts_fewer (d ∷ es) = subst (λ (xs : List Declaration). length xs ≤ length (d ∷ es)) (sym (firsts_is d es)) (omega (arith, fewer d es))

firsts_smaller : (list : List Declaration) → total (firsts list) ≤ total list
firsts_smaller [] = omega arith
firsts_smaller (d ∷ es) = subst (λ (xs : List Declaration). total xs ≤ total (d ∷ es)) (sym (firsts_is d es)) (omega (arith, smaller d es))

firsts_within : (list : List Declaration) (x : Declaration) → In x (firsts list) → In x list
firsts_within [] x i = i
firsts_within (d ∷ es) x i = ⊎_elim (λ s. inl s) (λ r. inr (others_within d es x r)) (subst (In x) (firsts_is d es) i)

firsts_whole : (list : List Declaration) (x : Declaration) → ListAgrees list → In x list → In x (firsts list)
firsts_whole [] x a i = i
firsts_whole (d ∷ es) x a i = subst (In x) (sym (firsts_is d es)) (⊎_elim (λ s. inl s) (λ r. others_whole d es x a r) i)

pub small : (sets : List (List Declaration)) (list : List Declaration) → IsPermutation (all_of sets) list → total (all_of sets) < 2 ^ 32 → total (firsts list) < 2 ^ 32
small sets list moved few = omega (arith, few, same_total (all_of sets) list moved, firsts_smaller list)

pub in_order : (sets : List (List Declaration)) (list : List Declaration) → IsPermutation (all_of sets) list → IsSortedByKey name_of text_cmp list → total (all_of sets) < 2 ^ 32 → IsInOrder (firsts list)
in_order sets list moved sorted few = record {
  rises = firsts_rise list sorted;
  short = omega (arith, few, length_total (all_of sets), length_permutation (all_of sets) list moved, firsts_fewer list);
}

pub union_of : (sets : List (List Declaration)) (list : List Declaration) → IsPermutation (all_of sets) list → IsSortedByKey name_of text_cmp list → ListAgrees list → total (all_of sets) < 2 ^ 32 → IsUnion sets (firsts list)
union_of sets list moved sorted agrees few = record {
  order = in_order sets list moved sorted few;
  within = λ x c. out_of sets list moved x (firsts_within list x (in_list (firsts list) x c));
  whole = λ x c. contained (firsts list) x (firsts_whole list x agrees (into sets list moved x c));
}

-- ---- what holds of each declaration of the sets

module _ (P : Declaration → Type 0) where
  all_in : (xs : List Declaration) → ((x : Declaration) → In x xs → P x) → All P xs
  all_in [] h = All-nil P
  all_in (x ∷ xs) h = All-cons P x xs (h x (inl refl)) (all_in xs (λ y i. h y (inr i)))

  pub all_sets : (sets : List (List Declaration)) → All (All P) sets → All P (all_of sets)
  all_sets [] h = All-nil P
  all_sets (set ∷ sets) h = All-append P set (all_of sets) (All-head (All P) set sets h) (all_sets sets (All-tail (All P) set sets h))

  pub all_firsts : (sets : List (List Declaration)) (list : List Declaration) → IsPermutation (all_of sets) list → All (All P) sets → All P (firsts list)
  all_firsts sets list moved h = all_in (firsts list) (λ x i. All-contains P (all_of sets) x (all_sets sets h) (out_of sets list moved x (firsts_within list x i)))

-- ---- putting in order what is in order

pub all_normal : (ds : List Declaration) → All IsNormal ds → map normal ds ≡ ds
all_normal [] h = refl
all_normal (d ∷ ds) h = ap (λ x. x ∷ map normal ds) (All-head IsNormal d ds h) ∙ ap (λ xs. d ∷ xs) (all_normal ds (All-tail IsNormal d ds h))

pub never_twice : (list : List Declaration) (name : List ℕ) → IsInOrder list → IsLeastTwice list name → ⊥
never_twice list name ordered twice = absurd (omega (arith, twice.twice, rises_once name_of list ordered.rises name))

-- one more of a list
pub one_more : (before now after types : List Declaration) (i : ℕ) (d e : Declaration) → slice_get types i ≡ Some d → e ≡ d → now ≡ before ++ take i types → after ≡ now ++ e ∷ [] → after ≡ before ++ take (i + 1) types
one_more before now after types i d e at same was is =
    let l : i < length types = slice_get_within types i d at in
    let here : get_or types i d ≡ d = get_or_from_slice_get types i d d at in
    is ∙ ap (λ x. now ++ x ∷ []) same ∙ ap (λ xs. xs ++ d ∷ []) was ∙ append_assoc before (take i types) (d ∷ [])
    ∙ ap (λ x. before ++ (take i types ++ x ∷ [])) (sym here) ∙ ap (λ xs. before ++ xs) (sym (take_more types i d l))

pub refused_of : (sets : List (List Declaration)) (list : List Declaration) (stop : Stop (List ℕ)) → IsPermutation (all_of sets) list → IsSortedByKey name_of text_cmp list → OnRefused (ListDiffers list) stop → OnRefused (LeastConflict sets) stop
refused_of sets list Memory moved sorted h = tt
refused_of sets list (Refused name) moved sorted h = conflict_of sets list name moved sorted h

-- ---- how many declarations and parts sets have together

total-append : (xs ys : List Declaration) → total (xs ++ ys) ≡ total xs + total ys
total-append [] ys = omega arith
total-append (x ∷ xs) ys = omega (arith, total-append xs ys)

total_sets : (sets : List (List Declaration)) → All (λ set. total set ≤ 520000) sets → total (all_of sets) ≤ 520000 * length sets
total_sets [] h = omega arith
total_sets (set ∷ sets) h =
    let first : total set ≤ 520000 = All-head (λ (s : List Declaration). total s ≤ 520000) set sets h in
    let rest : total (all_of sets) ≤ 520000 * length sets = total_sets sets (All-tail (λ (s : List Declaration). total s ≤ 520000) set sets h) in
    omega (arith, first, rest, total-append set (all_of sets))

pub few_together : (sets : List (List Declaration)) → length sets ≤ 256 → All (λ set. total set ≤ 520000) sets → total (all_of sets) < 2 ^ 32
few_together sets few h = omega (arith, few, total_sets sets h)

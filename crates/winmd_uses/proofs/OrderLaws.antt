-- Names in order, each once: what stands before a place comes before what stands there.
use Rattle.std.proofs.Common.{◌≡◌, ℕ, zero, suc, ◌+◌, Bool, true, false, List, [], ◌∷◌, ◌++◌, Some, None, map, take, drop, get_or, length, refl, sym, ap, subst, ◌∙◌, arith, inl, inr}
use Rattle.std.specs.Prelude.{◌||◌, ◌&&◌, not}
use Rattle.std.specs.List.{list_any, slice_get, AllByRecursion, AllAdjacentBelow}
use Rattle.std.specs.Str.{bytes_eq}
use Rattle.std.specs.Ordering.{nat_cmp, is_eq, ordering_reverse}
use Rattle.std.specs.Cmp.Lexicographic.{slice_cmp, bytes_decides, nat_list_cmp_total}
use Rattle.std.specs.declared.cmp.Ordering.{Ordering}
use Rattle.std.specs.declared.cmp.Ordering.TheVariants.{Less, Equal, Greater}
use Rattle.std.proofs.lemmas.List.Folds.{list_any-append}
use Rattle.std.proofs.lemmas.Option.{none-some, same_Some, slice_get-map}
use Rattle.std.specs.Option.{option_map}
use Rattle.std.proofs.lemmas.Map.Text.{is_eq-slice_cmp}
use Rattle.wr_base.specs.declared.declaration.Declaration.{Declaration}
use Rattle.wr_base.specs.Declarations.{Precedes, declared_as, name_of}
use Rattle.winmd_lines.specs.Names.{is_declared, is_outside}
use Rattle.winmd_uses.specs.Orders.{Rises}
use Rattle.winmd_uses.proofs.TakeLaws.{either}
use Rattle.winmd_uses.proofs.TextLaws.{bytes_turned}

pub apart : (a b : List ℕ) → slice_cmp nat_cmp a b ≡ Less → bytes_eq b a ≡ false
apart a b e = sym (is_eq-slice_cmp b a) ∙ ap is_eq (nat_list_cmp_total.antisymm b a ∙ ap ordering_reverse e)

-- a name that comes before others isn't among them
pub not_among : (x : List ℕ) (ys : List (List ℕ)) → AllByRecursion (λ y. slice_cmp nat_cmp x y ≡ Less) ys → list_any (bytes_eq x) ys ≡ false
not_among x [] h = refl
not_among x (y ∷ ys) h = (let no : bytes_eq x y ≡ false = sym (is_eq-slice_cmp x y) ∙ ap is_eq h.0 in rw (no, not_among x ys h.1) refl)

pub before_rest : (x z : List ℕ) (zs : List (List ℕ)) → slice_cmp nat_cmp x z ≡ Less → AllByRecursion (λ y. slice_cmp nat_cmp z y ≡ Less) zs → AllByRecursion (λ y. slice_cmp nat_cmp x y ≡ Less) zs
before_rest x z [] e h = tt
before_rest x z (y ∷ ys) e h = (nat_list_cmp_total.trans x z y e h.0, before_rest x z ys e h.1)

-- declared names rise
names_rise : (ds : List Declaration) → AllAdjacentBelow Precedes ds (length ds) → Rises (map name_of ds)
names_rise [] h = tt
names_rise (a ∷ []) h = (tt, tt)
names_rise (a ∷ b ∷ ds) h =
    let next : (k : ℕ) → suc k + 1 ≡ suc (k + 1) = λ k. omega arith in
    let first : slice_cmp nat_cmp (name_of a) (name_of b) ≡ Less = h 0 a (omega arith) in
    let rest : Rises (map name_of (b ∷ ds)) = names_rise (b ∷ ds) (λ k d l. subst (λ (n : ℕ). Precedes (get_or (b ∷ ds) k d) (get_or (a ∷ b ∷ ds) n d)) (next k) (h (suc k) d (omega (arith, l)))) in
    ((first, before_rest (name_of a) (name_of b) (map name_of ds) first rest.0), rest)

-- ---- a name that is found

or_true : (b : Bool) → (b || true) ≡ true
or_true true = refl
or_true false = refl

there : (x : List ℕ) (ts : List (List ℕ)) (k : ℕ) → slice_get ts k ≡ Some x → list_any (bytes_eq x) ts ≡ true
there x [] k e = absurd (none-some x e)
there x (t ∷ ts) zero e = (let is : bytes_eq x t ≡ true = (bytes_decides x t).1 (sym (same_Some t x e)) in rw is refl)
there x (t ∷ ts) (suc k) e = (let rest : list_any (bytes_eq x) ts ≡ true = there x ts k e in rw rest (or_true (bytes_eq x t)))

and_true : (b : Bool) → (b && true) ≡ b
and_true true = refl
and_true false = refl

and_false : (b : Bool) → (b && false) ≡ false
and_false true = refl
and_false false = refl

pub declared_at : (x : List ℕ) (ts : List (List ℕ)) (k : ℕ) (r : Bool) → slice_get ts k ≡ Some x → r ≡ is_outside x → not r ≡ is_declared ts x
declared_at x ts k r e o = ap not o ∙ sym (and_true (not (is_outside x))) ∙ ap (λ (b : Bool). not (is_outside x) && b) (sym (there x ts k e))

pub declared_none : (x : List ℕ) (ts : List (List ℕ)) → list_any (bytes_eq x) ts ≡ false → false ≡ is_declared ts x
declared_none x ts e = sym (and_false (not (is_outside x))) ∙ ap (λ (b : Bool). not (is_outside x) && b) (sym e)

-- the declaration at its place has it
pub found_name : (ds : List Declaration) (k : ℕ) (d : Declaration) (x : List ℕ) → slice_get ds k ≡ Some d → slice_get (map name_of ds) k ≡ Some x → name_of d ≡ x
found_name ds k d x at e = same_Some (name_of d) x (sym (slice_get-map name_of ds k ∙ ap (option_map name_of) at) ∙ e)

-- no declaration has it
pub none_has : (x : List ℕ) (ds : List Declaration) → declared_as ds x ≡ None → list_any (bytes_eq x) (map name_of ds) ≡ false
none_has x [] h = refl
none_has x (d ∷ ds) h =
    elim (either (bytes_eq (name_of d) x)) [
      | inl e ↦ absurd (none-some d (sym (rw e at h)))
      | inr e ↦ (let no : bytes_eq x (name_of d) ≡ false = bytes_turned x (name_of d) ∙ e in rw no (none_has x ds (rw e at h)))
    ]

-- ---- a name that is looked for from the middle on

one_of : (Q : List ℕ → Type 0) (ts : List (List ℕ)) (i : ℕ) (x : List ℕ) → slice_get ts i ≡ Some x → AllByRecursion Q ts → Q x
one_of Q [] i x e h = absurd (none-some x e)
one_of Q (t ∷ ts) zero x e h = subst Q (same_Some t x e) h.0
one_of Q (t ∷ ts) (suc i) x e h = one_of Q ts i x e h.1

-- behind those up to one that comes before it
below : (name : List ℕ) (ts : List (List ℕ)) (i : ℕ) (x : List ℕ) → Rises ts → slice_get ts i ≡ Some x → slice_cmp nat_cmp x name ≡ Less → list_any (bytes_eq name) (take (suc i) ts) ≡ false
below name [] i x r e l = absurd (none-some x e)
below name (t ∷ ts) zero x r e l = (let no : bytes_eq name t ≡ false = ap (bytes_eq name) (same_Some t x e) ∙ apart x name l in rw no refl)
below name (t ∷ ts) (suc i) x r e l =
    let first : slice_cmp nat_cmp t x ≡ Less = one_of (λ y. slice_cmp nat_cmp t y ≡ Less) ts i x e r.0 in
    let no : bytes_eq name t ≡ false = apart t name (nat_list_cmp_total.trans t x name first l) in
    rw no (below name ts i x r.1 e l)

-- before those from one on that comes behind it
above : (name : List ℕ) (ts : List (List ℕ)) (i : ℕ) (x : List ℕ) → Rises ts → slice_get ts i ≡ Some x → slice_cmp nat_cmp x name ≡ Greater → list_any (bytes_eq name) (drop i ts) ≡ false
above name [] i x r e g = absurd (none-some x e)
above name (t ∷ ts) zero x r e g =
    let back : slice_cmp nat_cmp name t ≡ Less = ap (slice_cmp nat_cmp name) (same_Some t x e) ∙ nat_list_cmp_total.antisymm name x ∙ ap ordering_reverse g in
    not_among name (t ∷ ts) (back, before_rest name t ts back r.0)
above name (t ∷ ts) (suc i) x r e g = above name ts i x r.1 e g

pub compared : (d : Declaration) (n name : List ℕ) (o p : Ordering) → n ≡ name_of d → p ≡ slice_cmp nat_cmp n name → p ≡ o → slice_cmp nat_cmp (name_of d) name ≡ o
compared d n name o p e c is = ap (λ (m : List ℕ). slice_cmp nat_cmp m name) (sym e) ∙ sym c ∙ is

module _ (ds : List Declaration) (rises : AllAdjacentBelow Precedes ds (length ds)) (name : List ℕ) (i : ℕ) (d : Declaration) (at : slice_get ds i ≡ Some d) where
  named : slice_get (map name_of ds) i ≡ Some (name_of d)
  named = slice_get-map name_of ds i ∙ ap (option_map name_of) at

  pub low_more : slice_cmp nat_cmp (name_of d) name ≡ Less → list_any (bytes_eq name) (take (i + 1) (map name_of ds)) ≡ false
  low_more l = (let next : suc i ≡ i + 1 = omega arith in subst (λ (k : ℕ). list_any (bytes_eq name) (take k (map name_of ds)) ≡ false) next (below name (map name_of ds) i (name_of d) (names_rise ds rises) named l))

  pub high_less : slice_cmp nat_cmp (name_of d) name ≡ Greater → list_any (bytes_eq name) (drop i (map name_of ds)) ≡ false
  high_less g = above name (map name_of ds) i (name_of d) (names_rise ds rises) named g

  pub here : slice_cmp nat_cmp (name_of d) name ≡ Equal → slice_get (map name_of ds) i ≡ Some name
  here e = named ∙ ap (λ (n : List ℕ). Some n) ((bytes_decides (name_of d) name).0 (sym (is_eq-slice_cmp (name_of d) name) ∙ ap is_eq e))

  pub named_there : list_any (bytes_eq (name_of d)) (map name_of ds) ≡ true
  named_there = there (name_of d) (map name_of ds) i named

-- nothing is left in the middle
pub none_left : (name : List ℕ) (ts : List (List ℕ)) (low high : ℕ) → low ≡ high → list_any (bytes_eq name) (take low ts) ≡ false → list_any (bytes_eq name) (drop high ts) ≡ false → list_any (bytes_eq name) ts ≡ false
none_left name ts low high e a b =
    ap (list_any (bytes_eq name)) (sym (both_parts low ts)) ∙ list_any-append (bytes_eq name) (take low ts) (drop low ts) ∙ ap (λ (t : Bool). t || list_any (bytes_eq name) (drop low ts)) a ∙ ap (λ (k : ℕ). list_any (bytes_eq name) (drop k ts)) e ∙ b
  where
    both_parts : (k : ℕ) (ts : List (List ℕ)) → take k ts ++ drop k ts ≡ ts
    both_parts zero ts = refl
    both_parts (suc k) [] = refl
    both_parts (suc k) (t ∷ ts) = ap (λ (us : List (List ℕ)). t ∷ us) (both_parts k ts)

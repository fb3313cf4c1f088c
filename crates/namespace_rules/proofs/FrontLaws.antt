-- Texts that begin with a text, among texts in order.
use Rattle.std.proofs.Common.{◌≡◌, ◌⊎◌, ⊎_elim, inl, inr, ◌<◌, ℕ, Bool, true, false, ◌||◌, ◌&&◌, ◌==◌, List, [], ◌∷◌, ◌++◌, slice_get, Option, Some, None, IfSome, String, string_bytes, is_gt, refl, sym, ap, subst, ◌∙◌, arith, true≢false}
use Rattle.std.specs.List.{list_any, starts_with}
use Rattle.std.specs.String.{string_cmp, string_cmp_total}
use Rattle.std.specs.BTreeMap.{is_at}
use Rattle.std.specs.BTreeMap.Range.{IsLeBy}
use Rattle.std.specs.BTreeSet.{BTreeSet, insert_key, IsKeyInRange, IsKeyRangeOf}
use Rattle.std.specs.declared.alloc.Global.{Global}
use Rattle.std.specs.declared.cmp.Ordering.{Ordering}
use Rattle.std.specs.declared.cmp.Ordering.TheVariants.{Less, Equal, Greater}
use Rattle.std.specs.declared.ops.Bound.TheVariants.{Included, Unbounded}
use Rattle.std.specs.Ordering.{nat_cmp, ordering_then, match_ordering, is_eq}
use Rattle.std.specs.Cmp.{nat_cmp_is, tied_itself}
use Rattle.std.specs.Cmp.Lexicographic.{slice_cmp}
use Rattle.std.specs.FinMap.{nat_cmp-IsAntisymmetric, slice_cmp-IsAntisymmetric}
use Rattle.std.proofs.lemmas.Bool.{false≢true, eqb-true, eq-eqb}
use Rattle.std.proofs.lemmas.Option.{none-some}
use Rattle.wr_rules.specs.NameRules.{begins}
use Rattle.namespace_rules.specs.Spaces.{holds_in}

abbrev Texts : Type 0
Texts = List (String Global)

pub or_false : (a : Bool) → (a || false) ≡ a
or_false true = refl
or_false false = refl

both : (a b : Bool) → (a && b) ≡ true → (a ≡ true) × (b ≡ true)
both true b e = (refl, e)
both false b e = cc

both_of : (a b : Bool) → a ≡ true → b ≡ true → (a && b) ≡ true
both_of true b e f = f
both_of false b e f = cc

pub or_left : (a b : Bool) → a ≡ true → (a || b) ≡ true
or_left true b e = refl
or_left false b e = cc

pub or_right : (a b : Bool) → b ≡ true → (a || b) ≡ true
or_right true b e = refl
or_right false b e = e

either : (a b : Bool) → (a || b) ≡ true → (a ≡ true) ⊎ (b ≡ true)
either true b e = inl refl
either false b e = inr e

by_facts : (a b : Bool) → (a ≡ true → b ≡ true) → (b ≡ true → a ≡ true) → a ≡ b
by_facts true b f g = sym (f refl)
by_facts false true f g = g refl
by_facts false false f g = refl

-- ---- orders

data Way (a b : ℕ) : Ordering → Ordering → Type 0 where
  less : a < b → Way a b Less Greater
  even : a ≡ b → Way a b Equal Equal
  more : b < a → Way a b Greater Less

three_ways : (a b : ℕ) → (a < b) ⊎ ((a ≡ b) ⊎ (b < a))
three_ways a b = grind arith

way : (a b : ℕ) → Way a b (nat_cmp a b) (nat_cmp b a)
way a b = ⊎_elim
    (λ l. subst (λ (o : Ordering). Way a b o (nat_cmp b a)) (nat_cmp_is a b Less l) (subst (λ (o : Ordering). Way a b Less o) (nat_cmp_is b a Greater l) (less l)))
    (λ r. ⊎_elim (λ e. subst (λ (o : Ordering). Way a b o (nat_cmp b a)) (nat_cmp_is a b Equal e) (subst (λ (o : Ordering). Way a b Equal o) (nat_cmp_is b a Equal (sym e)) (even e)))
    (λ g. subst (λ (o : Ordering). Way a b o (nat_cmp b a)) (nat_cmp_is a b Greater g) (subst (λ (o : Ordering). Way a b Greater o) (nat_cmp_is b a Less g) (more g))) r)
    (three_ways a b)

-- the text with a dot behind it
abbrev pub front_of : List ℕ → List ℕ
front_of text = text ++ 46 ∷ []

dot_first : (bs : List ℕ) → is_gt (slice_cmp nat_cmp (46 ∷ []) (46 ∷ bs)) ≡ false
dot_first [] = ap (λ o. is_gt (ordering_then o Equal)) (sym (nat_cmp_is 46 46 Equal refl))
dot_first (b ∷ bs) = ap (λ o. is_gt (ordering_then o Less)) (sym (nat_cmp_is 46 46 Equal refl))

-- what begins with it stands no earlier
behind : (text k : List ℕ) → begins text k ≡ true → is_gt (slice_cmp nat_cmp (front_of text) k) ≡ false
behind [] [] h = absurd (false≢true h)
behind [] (b ∷ bs) h = subst (λ (n : ℕ). is_gt (slice_cmp nat_cmp (46 ∷ []) (n ∷ bs)) ≡ false) (sym (eqb-true b 46 h)) (dot_first bs)
behind (a ∷ as_) [] h = absurd (false≢true h)
behind (a ∷ as_) (b ∷ bs) h =
    let s = both (a == b) (begins as_ bs) h in
    ap (λ o. is_gt (ordering_then o (slice_cmp nat_cmp (front_of as_) bs))) (sym (nat_cmp_is a b Equal (eqb-true a b s.0))) ∙ behind as_ bs s.1

squeezed : (a b : ℕ) (P Q o p : Ordering) → Way a b o p → is_gt (ordering_then o P) ≡ false → is_gt (ordering_then p Q) ≡ false → (a ≡ b) × (is_gt P ≡ false) × (is_gt Q ≡ false)
squeezed a b P Q o p (less l) f g = absurd (true≢false g)
squeezed a b P Q o p (even e) f g = (e, f, g)
squeezed a b P Q o p (more l) f g = absurd (true≢false f)

-- what stands between it and what begins with it, begins with it
between : (text x k : List ℕ) → is_gt (slice_cmp nat_cmp (front_of text) x) ≡ false → is_gt (slice_cmp nat_cmp x k) ≡ false → begins text k ≡ true → begins text x ≡ true
between [] [] k f g h = absurd (true≢false f)
between [] (b ∷ bs) [] f g h = absurd (false≢true h)
between [] (b ∷ bs) (c ∷ cs) f g h =
    let s = squeezed 46 b (slice_cmp nat_cmp [] bs) (slice_cmp nat_cmp bs cs) (nat_cmp 46 b) (nat_cmp b 46) (way 46 b) f
    (subst (λ (n : ℕ). is_gt (ordering_then (nat_cmp b n) (slice_cmp nat_cmp bs cs)) ≡ false) (eqb-true c 46 h) g) in
    eq-eqb b 46 (sym s.0)
between (a ∷ as_) [] k f g h = absurd (true≢false f)
between (a ∷ as_) (b ∷ bs) [] f g h = absurd (false≢true h)
between (a ∷ as_) (b ∷ bs) (c ∷ cs) f g h =
    let t = both (a == c) (begins as_ cs) h in
    let s = squeezed a b (slice_cmp nat_cmp (front_of as_) bs) (slice_cmp nat_cmp bs cs) (nat_cmp a b) (nat_cmp b a) (way a b) f
    (subst (λ (n : ℕ). is_gt (ordering_then (nat_cmp b n) (slice_cmp nat_cmp bs cs)) ≡ false) (sym (eqb-true a c t.0)) g) in
    both_of (a == b) (begins as_ bs) (eq-eqb a b s.0) (between as_ bs cs s.1 s.2 t.1)

-- ---- by a test on bytes

dot_so : (b : ℕ) → ((46 == b) && true) ≡ (b == 46)
dot_so b = by_facts ((46 == b) && true) (b == 46) (λ e. eq-eqb b 46 (sym (eqb-true 46 b (both (46 == b) true e).0))) (λ e. both_of (46 == b) true (eq-eqb 46 b (sym (eqb-true b 46 e))) refl)

pub starts_so : (text k : List ℕ) → starts_with (λ x y. x == y) k (front_of text) ≡ begins text k
starts_so [] [] = refl
starts_so [] (b ∷ bs) = dot_so b
starts_so (a ∷ as_) [] = refl
starts_so (a ∷ as_) (b ∷ bs) = ap (λ t. (a == b) && t) (starts_so as_ bs)

pub tests_front : (b : Bool) (text name k f : List ℕ) → b ≡ starts_with (λ x y. x == y) k f → k ≡ name → f ≡ front_of text → b ≡ begins text name
tests_front b text name k f e g h = e ∙ ap (λ (bs : List ℕ). starts_with (λ x y. x == y) bs f) g ∙ ap (starts_with (λ x y. x == y) name) h ∙ starts_so text name

-- ---- a set's texts

same_text : (k x : String Global) → string_cmp k x ≡ Equal → string_bytes k ≡ string_bytes x
same_text k x e = slice_cmp-IsAntisymmetric nat_cmp-IsAntisymmetric (string_bytes k) (string_bytes x) e

last_first : (a b c : Bool) → (a || (b || c)) ≡ ((b || c) || a)
last_first true true c = refl
last_first true false true = refl
last_first true false false = refl
last_first false b c = sym (or_false (b || c))

there_is : (a b c : Bool) → a ≡ b → (b || c) ≡ ((b || c) || a)
there_is true true c e = refl
there_is true false c e = cc
there_is false true c e = cc
there_is false false c e = sym (or_false c)

regroup : (a b c : Bool) → (a || (b || c)) ≡ ((a || b) || c)
regroup true b c = refl
regroup false b c = refl

is_equal : (o : Ordering) → is_eq o ≡ true → o ≡ Equal
is_equal Less e = absurd (false≢true e)
is_equal Equal e = refl
is_equal Greater e = absurd (false≢true e)

module _ (p : List ℕ → Bool) where
  abbrev any_of : Texts → Bool
  any_of ks = list_any (λ k. p (string_bytes k)) ks

  pub any_inserted : (ks : Texts) (k : String Global) → any_of (insert_key string_cmp ks k) ≡ (any_of ks || p (string_bytes k))
  any_inserted [] k = or_false (p (string_bytes k))
  any_inserted (x ∷ xs) k = by_order (string_cmp k x) refl (any_inserted xs k)
    where
      by_order : (o : Ordering) → string_cmp k x ≡ o → any_of (insert_key string_cmp xs k) ≡ (any_of xs || p (string_bytes k))
          → any_of (match_ordering o (k ∷ x ∷ xs) (x ∷ xs) (x ∷ insert_key string_cmp xs k)) ≡ (any_of (x ∷ xs) || p (string_bytes k))
      by_order Less e h = last_first (p (string_bytes k)) (p (string_bytes x)) (any_of xs)
      by_order Equal e h = there_is (p (string_bytes k)) (p (string_bytes x)) (any_of xs) (ap p (same_text k x e))
      by_order Greater e h = ap (λ t. p (string_bytes x) || t) h ∙ regroup (p (string_bytes x)) (any_of xs) (p (string_bytes k))

  -- an equal text is in the set
  has_it : (ks : Texts) (q : String Global) → list_any (is_at (string_cmp q)) ks ≡ true → p (string_bytes q) ≡ true → any_of ks ≡ true
  has_it [] q e h = absurd (false≢true e)
  has_it (x ∷ xs) q e h = ⊎_elim
      (λ a. or_left (p (string_bytes x)) (any_of xs) (ap p (sym (same_text q x (is_equal (string_cmp q x) a))) ∙ h))
      (λ b. or_right (p (string_bytes x)) (any_of xs) (has_it xs q b h))
      (either (is_eq (string_cmp q x)) (list_any (is_at (string_cmp q)) xs) e)

  one_has : (ks : Texts) → any_of ks ≡ true → (q : String Global) × (list_any (is_at (string_cmp q)) ks ≡ true) × (p (string_bytes q) ≡ true)
  one_has [] e = absurd (false≢true e)
  one_has (x ∷ xs) e = ⊎_elim
      (λ a. (x, or_left (is_eq (string_cmp x x)) (list_any (is_at (string_cmp x)) xs) (ap is_eq (tied_itself string_cmp_total x)), a))
      (λ b. (let r = one_has xs b in (r.0, or_right (is_eq (string_cmp r.0 x)) (list_any (is_at (string_cmp r.0)) xs) r.1, r.2)))
      (either (p (string_bytes x)) (any_of xs) e)

-- ---- the first of those that don't stand before it

-- there is a text, and it begins so
abbrev pub first_begins : List ℕ → Option (String Global) → Bool
first_begins text None = false
first_begins text (Some x) = begins text (string_bytes x)

no_text : (r : Texts) → slice_get r 0 ≡ None → r ≡ []
no_text [] e = refl
no_text (x ∷ xs) e = absurd (none-some x (sym e))

module _ (text : List ℕ) (set : BTreeSet (String Global)) (front : String Global) (is : string_bytes front ≡ front_of text) (r : Texts) (range : IsKeyRangeOf string_cmp (Included front) Unbounded set r) where
  stands_behind : (q : String Global) → begins text (string_bytes q) ≡ true → is_gt (string_cmp front q) ≡ false
  stands_behind q h = subst (λ (bs : List ℕ). is_gt (slice_cmp nat_cmp bs (string_bytes q)) ≡ false) (sym is) (behind text (string_bytes q) h)

  none_begins : r ≡ [] → holds_in set text ≡ true → false ≡ true
  none_begins e h =
      let q = one_has (begins text) set.keys h in
      sym (range.5 e q.0 (stands_behind q.0 q.2, tt)) ∙ q.1

  pub first_tells : (o : Option (String Global)) → slice_get r 0 ≡ o → first_begins text o ≡ holds_in set text
  first_tells None e = by_facts false (holds_in set text) (λ f. absurd (false≢true f)) (λ h. none_begins (no_text r e) h)
  first_tells (Some x) e =
      by_facts (begins text (string_bytes x)) (holds_in set text)
      (λ h. has_it (begins text) set.keys x here.1 h)
      (λ h. (let q = one_has (begins text) set.keys h in
      between text (string_bytes x) (string_bytes q.0) (subst (λ (bs : List ℕ). is_gt (slice_cmp nat_cmp bs (string_bytes x)) ≡ false) is here.0.0) (first_of q.0 (stands_behind q.0 q.2) q.1) q.2))
    where
      here : IsKeyInRange string_cmp (Included front) Unbounded set x
      here = subst (λ (o : Option (String Global)). IfSome o (IsKeyInRange string_cmp (Included front) Unbounded set)) e range.1

      first_of : (q : String Global) → is_gt (string_cmp front q) ≡ false → list_any (is_at (string_cmp q)) set.keys ≡ true → IsLeBy string_cmp x q
      first_of q l m = subst (λ (o : Option (String Global)). IfSome o (λ k. IsLeBy string_cmp k q)) e (range.2 q (l, tt) m)

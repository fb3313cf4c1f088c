-- Where a full name stands in a set.
use Rattle.std.proofs.Common.{◌≡◌, ◌+◌, ◌≤◌, ℕ, zero, suc, true, false, cond, List, [], ◌∷◌, Option, Some, None, IfSome, IfNone, Contains, map, slice_get, refl, sym, ap, subst, ◌∙◌, arith, zero-add}
use Rattle.std.specs.Option.{option_map}
use Rattle.std.specs.Str.{bytes_eq}
use Rattle.std.specs.Cmp.Lexicographic.{bytes_decides}
use Rattle.std.proofs.lemmas.Option.{same_Some, none-some}
use Rattle.std.proofs.lemmas.List.Sums.{sum_by-cons}
use Rattle.wr_base.specs.declared.declaration.Declaration.{Declaration}
use Rattle.wr_base.specs.Declarations.{name_of, IsInOrder, declared_as, times}
use Rattle.wr_base.proofs.TwiceLemmas.{rises_once}
use Rattle.struct_cycles.specs.Places.{place_in}

one_more : (d : Declaration) (ds : List Declaration) (name : List ℕ) → bytes_eq (name_of d) name ≡ true → times (d ∷ ds) name ≡ 1 + times ds name
one_more d ds name e = sum_by-cons (λ x. cond (bytes_eq (name_of x) name) 1 0) d ds ∙ ap (λ b. cond b 1 0 + times ds name) e

no_more : (d : Declaration) (ds : List Declaration) (name : List ℕ) → bytes_eq (name_of d) name ≡ false → times (d ∷ ds) name ≡ times ds name
no_more d ds name e = sum_by-cons (λ x. cond (bytes_eq (name_of x) name) 1 0) d ds ∙ ap (λ b. cond b 1 0 + times ds name) e ∙ zero-add (times ds name)

there : (ds : List Declaration) (i : ℕ) (name : List ℕ) → slice_get (map name_of ds) i ≡ Some name → 1 ≤ times ds name
there [] i name e = absurd (none-some name e)
there (d ∷ ds) zero name e = let t = one_more d ds name ((bytes_decides (name_of d) name).1 (same_Some (name_of d) name e)) in omega (arith, t)
there (d ∷ ds) (suc i) name e = let t = there ds i name e in elim (bytes_eq (name_of d) name) as (λ b. bytes_eq (name_of d) name ≡ b → 1 ≤ times (d ∷ ds) name) [
  | true ↦ λ h. (let o = one_more d ds name h in omega (arith, o))
  | false ↦ λ h. (let o = no_more d ds name h in omega (arith, o, t))
] refl

once : (ds : List Declaration) (i : ℕ) (name : List ℕ) → times ds name ≤ 1 → slice_get (map name_of ds) i ≡ Some name → place_in ds name ≡ Some i
once [] i name l e = absurd (none-some name e)
once (d ∷ ds) zero name l e = ap (λ b. cond b (Some 0) (option_map suc (place_in ds name))) ((bytes_decides (name_of d) name).1 (same_Some (name_of d) name e))
once (d ∷ ds) (suc i) name l e = elim (bytes_eq (name_of d) name) as (λ b. bytes_eq (name_of d) name ≡ b → cond b (Some 0) (option_map suc (place_in ds name)) ≡ Some (suc i)) [
  | true ↦ λ h. (let o = one_more d ds name h in let t = there ds i name e in absurd (omega (arith, o, t, l)))
  | false ↦ λ h. (let o = no_more d ds name h in ap (option_map suc) (once ds i name (omega (arith, o, l)) e))
] refl

-- in order, a place where the name stands is the place
pub place_is : (types : List Declaration) (i : ℕ) (name : List ℕ) → IsInOrder types → slice_get (map name_of types) i ≡ Some name → place_in types name ≡ Some i
place_is types i name o e = once types i name (rises_once name_of types o.rises name) e

pub place_none : (types : List Declaration) (name : List ℕ) → (Contains (map name_of types) name → ⊥) → place_in types name ≡ None
place_none [] name n = refl
place_none (d ∷ ds) name n = elim (bytes_eq (name_of d) name) as (λ b. bytes_eq (name_of d) name ≡ b → cond b (Some 0) (option_map suc (place_in ds name)) ≡ None) [
  | true ↦ λ h. absurd (n (0, omega arith, (bytes_decides (name_of d) name).0 h))
  | false ↦ λ h. ap (option_map suc) (place_none ds name (λ c. n (suc c.0, omega (arith, c.1), c.2)))
] refl

-- what a search answers is the place
pub place_found : (types : List Declaration) (name : List ℕ) (r : Option ℕ) → IsInOrder types → IfSome r (λ i. slice_get (map name_of types) i ≡ Some name) → IfNone r (Contains (map name_of types) name → ⊥) → r ≡ place_in types name
place_found types name None o f n = sym (place_none types name n)
place_found types name (Some i) o f n = sym (place_is types i name o f)

pub named_at : (types : List Declaration) (i : ℕ) (d : Declaration) → slice_get types i ≡ Some d → slice_get (map name_of types) i ≡ Some (name_of d)
named_at [] i d e = absurd (none-some d e)
named_at (x ∷ xs) zero d e = ap (λ (y : Declaration). Some (name_of y)) (same_Some x d e)
named_at (x ∷ xs) (suc i) d e = named_at xs i d e

behind : (x : Declaration) (xs : List Declaration) (name : List ℕ) (i : ℕ) (o : Option ℕ) → ((j : ℕ) → place_in xs name ≡ Some j → (d : Declaration) × (slice_get xs j ≡ Some d) × (declared_as xs name ≡ Some d) × (name_of d ≡ name))
    → place_in xs name ≡ o → option_map suc o ≡ Some i → (d : Declaration) × (slice_get (x ∷ xs) i ≡ Some d) × (declared_as xs name ≡ Some d) × (name_of d ≡ name)
behind x xs name i None f p q = absurd (none-some i q)
behind x xs name i (Some j) f p q = let r = f j p in (r.0, subst (λ k. slice_get (x ∷ xs) k ≡ Some r.0) (same_Some (suc j) i q) r.1, r.2, r.3)

-- at the place of a name stands its declaration
pub place_declared : (types : List Declaration) (name : List ℕ) (i : ℕ) → place_in types name ≡ Some i → (d : Declaration) × (slice_get types i ≡ Some d) × (declared_as types name ≡ Some d) × (name_of d ≡ name)
place_declared [] name i e = absurd (none-some i e)
place_declared (x ∷ xs) name i e = elim (bytes_eq (name_of x) name) as (λ b. bytes_eq (name_of x) name ≡ b → cond b (Some 0) (option_map suc (place_in xs name)) ≡ Some i
    → (d : Declaration) × (slice_get (x ∷ xs) i ≡ Some d) × (cond b (Some x) (declared_as xs name) ≡ Some d) × (name_of d ≡ name)) [
      | true ↦ λ h q. (x, subst (λ j. slice_get (x ∷ xs) j ≡ Some x) (same_Some 0 i q) refl, refl, (bytes_decides (name_of x) name).0 h)
      | false ↦ λ h q. behind x xs name i (place_in xs name) (λ j p. place_declared xs name j p) refl q
    ] refl e

-- a declared name has a place
pub declared_place : (types : List Declaration) (name : List ℕ) (d : Declaration) → declared_as types name ≡ Some d → (i : ℕ) × (place_in types name ≡ Some i)
declared_place [] name d e = absurd (none-some d e)
declared_place (x ∷ xs) name d e = elim (bytes_eq (name_of x) name) as (λ b. bytes_eq (name_of x) name ≡ b → cond b (Some x) (declared_as xs name) ≡ Some d → (i : ℕ) × (cond b (Some 0) (option_map suc (place_in xs name)) ≡ Some i)) [
  | true ↦ λ h q. (0, refl)
  | false ↦ λ h q. (let r = declared_place xs name d q in (suc r.0, ap (option_map suc) r.1))
] refl e

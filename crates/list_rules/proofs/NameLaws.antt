-- One more declared name is numbered.
use Rattle.std.proofs.Common.{◌≡◌, ◌<◌, ◌+◌, ℕ, zero, suc, Bool, true, false, cond, List, [], ◌∷◌, ◌++◌, Option, Some, None, ◌⊎◌, ⊎_elim, map, length, take, get_or, slice_get, refl, sym, ap, subst, ◌∙◌, arith, true≢false}
use Rattle.std.specs.Option.{option_map, option_or}
use Rattle.std.specs.Str.{bytes_eq}
use Rattle.std.specs.Cmp.Lexicographic.{bytes_decides}
use Rattle.std.proofs.lemmas.List.{take_more}
use Rattle.std.proofs.lemmas.Option.{same_Some, none-some}
use Rattle.wr_base.specs.declared.declaration.Declaration.{Declaration}
use Rattle.wr_base.specs.Declarations.{name_of, IsInOrder}
use Rattle.numbered.specs.Numbers.{IsNumbering, Kept}
use Rattle.struct_cycles.specs.Places.{place_in}
use Rattle.struct_cycles.proofs.PlaceLaws.{place_is, place_declared, named_at}

get_there : {X : Type 0} (xs : List X) (i : ℕ) (x d : X) → slice_get xs i ≡ Some x → get_or xs i d ≡ x
get_there [] i x d e = absurd (none-some x e)
get_there (y ∷ ys) zero x d e = same_Some y x e
get_there (y ∷ ys) (suc i) x d e = get_there ys i x d e

one_place : (b : Bool) (n : ℕ) → option_map suc (cond b (Some n) None) ≡ cond b (Some (suc n)) None
one_place true n = refl
one_place false n = refl

behind_or : (p : Option ℕ) (b : Bool) (n : ℕ) → option_map suc (option_or p (cond b (Some n) None)) ≡ option_or (option_map suc p) (cond b (Some (suc n)) None)
behind_or (Some k) b n = refl
behind_or None b n = one_place b n

first_place : (b : Bool) → cond b (Some 0) (option_map suc None) ≡ option_or None (cond b (Some 0) None)
first_place true = refl
first_place false = refl

-- a declaration behind the others has its place where none of them has the name
place_behind : (ds : List Declaration) (d : Declaration) (name : List ℕ) → place_in (ds ++ d ∷ []) name ≡ option_or (place_in ds name) (cond (bytes_eq (name_of d) name) (Some (length ds)) None)
place_behind [] d name = first_place (bytes_eq (name_of d) name)
place_behind (x ∷ xs) d name = elim (bytes_eq (name_of x) name) as (λ b. cond b (Some 0) (option_map suc (place_in (xs ++ d ∷ []) name)) ≡ option_or (cond b (Some 0) (option_map suc (place_in xs name))) (cond (bytes_eq (name_of d) name) (Some (suc (length xs))) None)) [
  | true ↦ refl
  | false ↦ ap (option_map suc) (place_behind xs d name) ∙ behind_or (place_in xs name) (bytes_eq (name_of d) name) (length xs)
]

length_taken : (ds : List Declaration) (i : ℕ) → i < length ds → length (take i ds) ≡ i
length_taken [] i l = absurd (omega (arith, l))
length_taken (x ∷ xs) zero l = refl
length_taken (x ∷ xs) (suc i) l = ap suc (length_taken xs i (omega (arith, l)))

place_more : (ds : List Declaration) (i : ℕ) (d : Declaration) (name : List ℕ) → i < length ds → slice_get ds i ≡ Some d → place_in (take (i + 1) ds) name ≡ option_or (place_in (take i ds) name) (cond (bytes_eq (name_of d) name) (Some i) None)
place_more ds i d name l at =
    ap (λ (xs : List Declaration). place_in xs name) (take_more ds i d l ∙ ap (λ (x : Declaration). take i ds ++ x ∷ []) (get_there ds i d d at)) ∙ place_behind (take i ds) d name
    ∙ ap (λ (n : ℕ). option_or (place_in (take i ds) name) (cond (bytes_eq (name_of d) name) (Some n) None)) (length_taken ds i l)

taken_there : (ds : List Declaration) (i j : ℕ) (d : Declaration) → slice_get (take i ds) j ≡ Some d → (j < i) × (slice_get ds j ≡ Some d)
taken_there [] zero j d e = absurd (none-some d e)
taken_there [] (suc i) j d e = absurd (none-some d e)
taken_there (x ∷ xs) zero j d e = absurd (none-some d e)
taken_there (x ∷ xs) (suc i) zero d e = (omega arith, e)
taken_there (x ∷ xs) (suc i) (suc j) d e = let r = taken_there xs i j d e in let l = r.0 in (omega (arith, l), r.1)

-- the name at a place isn't one of those before
pub prefix_new : (ds : List Declaration) (i : ℕ) (d : Declaration) → IsInOrder ds → slice_get ds i ≡ Some d → place_in (take i ds) (name_of d) ≡ None
prefix_new ds i d o at = none (place_in (take i ds) (name_of d)) refl
  where
    none : (p : Option ℕ) → place_in (take i ds) (name_of d) ≡ p → p ≡ None
    none None e = refl
    none (Some j) e =
        let r = place_declared (take i ds) (name_of d) j e in
        let t = taken_there ds i j r.0 r.1 in
        let here = place_is ds i (name_of d) o (named_at ds i d at) in
        let there = place_is ds j (name_of d) o (subst (λ (n : List ℕ). slice_get (map name_of ds) j ≡ Some n) r.3 (named_at ds j r.0 t.1)) in
        let same : j ≡ i = same_Some j i (sym there ∙ here) in
        let low = t.0 in
        absurd (omega (arith, same, low))

or_some : (p q : Option ℕ) (k : ℕ) → p ≡ Some k → option_or p q ≡ Some k
or_some (Some j) q k e = e
or_some None q k e = absurd (none-some k e)

or_none : (p q : Option ℕ) → p ≡ None → option_or p q ≡ q
or_none None q e = refl
or_none (Some j) q e = absurd (none-some j (sym e))

module _ (ds : List Declaration) (i : ℕ) (d : Declaration) (l : i < length ds) (at : slice_get ds i ≡ Some d) (f g : List ℕ → Option ℕ) (names : (q : List ℕ) → f q ≡ place_in (take i ds) q)
    (kept : Kept f g) (here : g (name_of d) ≡ Some i) (only : (q : List ℕ) (k : ℕ) → g q ≡ Some k → (name_of d ≡ q) ⊎ (f q ≡ Some k)) where
  was : (q : List ℕ) (p : Option ℕ) → f q ≡ p → g q ≡ option_or (place_in (take i ds) q) (cond (bytes_eq (name_of d) q) (Some i) None)
  was q (Some k) e = kept q k e ∙ sym (or_some (place_in (take i ds) q) _ k (sym (names q) ∙ e))
  was q None e = elim (bytes_eq (name_of d) q) as (λ b. bytes_eq (name_of d) q ≡ b → g q ≡ option_or (place_in (take i ds) q) (cond b (Some i) None)) [
    | true ↦ λ h. ap g (sym ((bytes_decides (name_of d) q).0 h)) ∙ here ∙ sym (or_none (place_in (take i ds) q) (Some i) (sym (names q) ∙ e))
    | false ↦ λ h. isnt (g q) refl h ∙ sym (or_none (place_in (take i ds) q) None (sym (names q) ∙ e))
  ] refl
    where
      isnt : (p : Option ℕ) → g q ≡ p → bytes_eq (name_of d) q ≡ false → g q ≡ None
      isnt None r h = r
      isnt (Some k) r h = absurd (⊎_elim (λ s. true≢false (sym ((bytes_decides (name_of d) q).1 s) ∙ h)) (λ s. none-some k (sym e ∙ s)) (only q k r))

  -- and so all names up to it
  pub names_more : (q : List ℕ) → g q ≡ place_in (take (i + 1) ds) q
  names_more q = was q (f q) refl ∙ sym (place_more ds i d q l at)

empty_place : (ds : List Declaration) (q : List ℕ) → place_in (take 0 ds) q ≡ None
empty_place [] q = refl
empty_place (x ∷ xs) q = refl

-- before the first one there is none
pub names_none : (ds : List Declaration) (f : List ℕ → Option ℕ) → ((q : List ℕ) → f q ≡ None) → (q : List ℕ) → f q ≡ place_in (take 0 ds) q
names_none ds f h q = h q ∙ sym (empty_place ds q)

pub numbering_none : (f : List ℕ → Option ℕ) (n : ℕ) → ((q : List ℕ) → f q ≡ None) → IsNumbering f n
numbering_none f n h = record {
  within = λ t k e. absurd (none-some k (sym (h t) ∙ e));
  apart = λ s t k e d. absurd (none-some k (sym (h s) ∙ e));
}

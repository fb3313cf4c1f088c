-- One place, and one declaration, more.
use Rattle.std.proofs.Common.{◌≡◌, ℕ, zero, suc, ◌+◌, ◌<◌, ◌≤◌, List, [], ◌∷◌, ◌++◌, length, take, get_or, sym, ap, ◌∙◌, arith, add-one}
use Rattle.std.proofs.Common.{Some, None, inl, inr}
use Rattle.std.specs.List.{slice_get}
use Rattle.std.proofs.lemmas.Bool.{cases_lt}
use Rattle.std.proofs.lemmas.Option.{get_or_from_slice_get, slice_get_past}
use Rattle.std.proofs.lemmas.List.{take_more}
use Rattle.wr_base.specs.declared.places.DeclPlaces.{DeclPlaces}
use Rattle.wr_base.specs.declared.declaration.Declaration.{Declaration}
use Rattle.ranked.specs.declared.place.Place.{Place}
use Rattle.wr_base.specs.Places.{numbered, total, placed, plain_from, part_count}

slice_get-inside : {X : Type 0} (xs : List X) (i : ℕ) (x : X) → slice_get xs i ≡ Some x → i < length xs
slice_get-inside xs i x e = elim (cases_lt i (length xs)) [
  | inl low ↦ low
  | inr past ↦ let none : slice_get xs i ≡ None = slice_get_past xs i past in cc (sym e ∙ none)
]

pub numbered-snoc : (from n : ℕ) → numbered from (n + 1) ≡ numbered from n ++ record { file = 0; offset = from + n } ∷ []
numbered-snoc from zero =
    let place : ℕ → Place = λ k. record { file = 0; offset = k } in
    let same : from ≡ from + 0 = omega arith in ap (λ k. place k ∷ []) same
numbered-snoc from (suc n) =
    let place : ℕ → Place = λ k. record { file = 0; offset = k } in
    let later : (from + 1) + n ≡ from + suc n = omega arith in
    ap (numbered from) (add-one (suc n)) ∙ ap (λ m. place from ∷ numbered (from + 1) m) (sym (add-one n))
    ∙ ap (λ t. place from ∷ t) (numbered-snoc (from + 1) n) ∙ ap (λ k. place from ∷ numbered (from + 1) n ++ place k ∷ []) later

plain-snoc : (n : ℕ) (ds : List Declaration) (d : Declaration) → plain_from n (ds ++ d ∷ []) ≡ plain_from n ds ++ placed (n + total ds) d ∷ []
plain-snoc n [] d = let same : n ≡ n + 0 = omega arith in ap (λ k. placed k d ∷ []) same
plain-snoc n (x ∷ ds) d =
    let later : (n + 1 + part_count x) + total ds ≡ n + (1 + part_count x + total ds) = omega arith in
    ap (λ t. placed n x ∷ t) (plain-snoc (n + 1 + part_count x) ds d ∙ ap (λ k. plain_from (n + 1 + part_count x) ds ++ placed k d ∷ []) later)

total-snoc : (ds : List Declaration) (d : Declaration) → total (ds ++ d ∷ []) ≡ total ds + 1 + part_count d
total-snoc [] d = omega arith
total-snoc (x ∷ ds) d = omega (arith, total-snoc ds d)

pub plain_more : (ds : List Declaration) (i : ℕ) (d : Declaration) → i < length ds
    → plain_from 0 (take (i + 1) ds) ≡ plain_from 0 (take i ds) ++ placed (total (take i ds)) (get_or ds i d) ∷ []
plain_more ds i d l =
    let same : 0 + total (take i ds) ≡ total (take i ds) = omega arith in
    ap (plain_from 0) (take_more ds i d l) ∙ plain-snoc 0 (take i ds) (get_or ds i d)
    ∙ ap (λ k. plain_from 0 (take i ds) ++ placed k (get_or ds i d) ∷ []) same

pub total_more : (ds : List Declaration) (i : ℕ) (d : Declaration) → i < length ds
    → total (take (i + 1) ds) ≡ total (take i ds) + 1 + part_count (get_or ds i d)
total_more ds i d l = ap total (take_more ds i d l) ∙ total-snoc (take i ds) (get_or ds i d)

pub total-take-le : (n : ℕ) (ds : List Declaration) → total (take n ds) ≤ total ds
total-take-le zero ds = omega arith
total-take-le (suc n) [] = omega arith
total-take-le (suc n) (x ∷ ds) = omega (arith, total-take-le n ds)

-- the next declaration and its parts are among all
pub next_fits : (ds : List Declaration) (i next : ℕ) (d : Declaration) → slice_get ds i ≡ Some d → next ≡ total (take i ds) → next + 1 + part_count d ≤ total ds
next_fits ds i next d at is =
    let inside : i < length ds = slice_get-inside ds i d at in
    let more : total (take (i + 1) ds) ≡ total (take i ds) + 1 + part_count d =
    total_more ds i d inside ∙ ap (λ x. total (take i ds) + 1 + part_count x) (get_or_from_slice_get ds i d d at) in
    omega (arith, more, total-take-le (i + 1) ds, is)

-- with one declaration more
pub total_next : (ds : List Declaration) (i next : ℕ) (d : Declaration) → slice_get ds i ≡ Some d → next ≡ total (take i ds) → next + (1 + part_count d) ≡ total (take (i + 1) ds)
total_next ds i next d at is =
    let inside : i < length ds = slice_get-inside ds i d at in
    let more : total (take (i + 1) ds) ≡ total (take i ds) + 1 + part_count d =
    total_more ds i d inside ∙ ap (λ x. total (take i ds) + 1 + part_count x) (get_or_from_slice_get ds i d d at) in
    omega (arith, is, more)

pub one_placed : (ds : List Declaration) (i next after : ℕ) (d : Declaration) (old new : List DeclPlaces) → slice_get ds i ≡ Some d → next ≡ total (take i ds)
    → old ≡ plain_from 0 (take i ds) → new ≡ old ++ placed next d ∷ [] → after ≡ next + 1 + part_count d
    → (new ≡ plain_from 0 (take (i + 1) ds)) × (after ≡ total (take (i + 1) ds))
one_placed ds i next after d old new at is o n a =
    let inside : i < length ds = slice_get-inside ds i d at in
    let item : get_or ds i d ≡ d = get_or_from_slice_get ds i d d at in
    let more : total (take (i + 1) ds) ≡ total (take i ds) + 1 + part_count d =
    total_more ds i d inside ∙ ap (λ x. total (take i ds) + 1 + part_count x) item in (
      n ∙ ap (λ t. t ++ placed next d ∷ []) o ∙ ap (λ k. plain_from 0 (take i ds) ++ placed k d ∷ []) is
          ∙ sym (plain_more ds i d inside ∙ ap (λ x. plain_from 0 (take i ds) ++ placed (total (take i ds)) x ∷ []) item),
      omega (arith, a, is, more),
    )

pub numbered_more : (from k : ℕ) (old new : List Place) → old ≡ numbered from k → new ≡ old ++ record { file = 0; offset = from + k } ∷ [] → new ≡ numbered from (k + 1)
numbered_more from k old new o n = n ∙ ap (λ t. t ++ record { file = 0; offset = from + k } ∷ []) o ∙ sym (numbered-snoc from k)

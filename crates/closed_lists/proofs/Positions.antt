-- Where a name stands for the first time.
use Rattle.std.proofs.Common.{◌≡◌, ◌<◌, ◌+◌, ℕ, zero, suc, Bool, true, false, cond, List, [], ◌∷◌, ◌++◌, Option, Some, None, map, take, length, get_or, slice_get, refl, sym, ap, ◌∙◌, arith}
use Rattle.std.specs.Option.{option_or, option_map, option_and_then, is_some}
use Rattle.std.specs.Str.{bytes_eq}
use Rattle.std.specs.Map.{update}
use Rattle.std.specs.Cmp.Lexicographic.{bytes_decides}
use Rattle.std.proofs.lemmas.List.{take_more}
use Rattle.std.proofs.lemmas.Option.{same_Some, slice_get_within, slice_get-get_or, slice_get-map, slice_get_read}
use Rattle.wr_base.specs.Declarations.{name_of, declared_as}
use Rattle.wr_base.specs.declared.declaration.Declaration.{Declaration}
use Rattle.closed_lists.specs.Indexes.{names_in, position, place_if}
use Rattle.closed_lists.specs.Views.{decls_in}
use Rattle.closed_lists.specs.declared.site.PlacedDeclaration.{PlacedDeclaration}

-- a name more
position_push : (ns : List (List ℕ)) (n q : List ℕ) → position (ns ++ n ∷ []) q ≡ option_or (position ns q) (place_if (bytes_eq n q) (length ns))
position_push [] n q = elim (bytes_eq n q) as (λ b. cond b (Some 0) None ≡ place_if b 0) [ true ↦ refl | false ↦ refl ]
position_push (m ∷ ns) n q = elim (bytes_eq m q) as (λ b. cond b (Some 0) (option_map suc (position (ns ++ n ∷ []) q)) ≡ option_or (cond b (Some 0) (option_map suc (position ns q))) (place_if (bytes_eq n q) (suc (length ns)))) [
  | true ↦ refl
  | false ↦ ap (option_map suc) (position_push ns n q) ∙ moved (position ns q) (bytes_eq n q) (length ns)
]
  where
    moved : (o : Option ℕ) (b : Bool) (k : ℕ) → option_map suc (option_or o (place_if b k)) ≡ option_or (option_map suc o) (place_if b (suc k))
    moved (Some x) b k = refl
    moved None true k = refl
    moved None false k = refl

-- a loop's turn
pub position_turn : (ns : List (List ℕ)) (i : ℕ) (n q : List ℕ) (new old : Option ℕ) → slice_get ns i ≡ Some n → new ≡ option_or old (place_if (bytes_eq n q) i) → old ≡ position (take i ns) q → new ≡ position (take (i + 1) ns) q
position_turn ns i n q new old at e o =
    let l : i < length ns = slice_get_within ns i n at in
    let same : get_or ns i n ≡ n = same_Some (get_or ns i n) n (sym (slice_get-get_or ns i n l) ∙ at) in
    e ∙ ap (λ (w : Option ℕ). option_or w (place_if (bytes_eq n q) i)) o ∙ ap (λ k. option_or (position (take i ns) q) (place_if (bytes_eq n q) k)) (sym (taken ns i l))
    ∙ sym (position_push (take i ns) n q) ∙ ap (λ (xs : List (List ℕ)). position xs q) (ap (λ m. take i ns ++ m ∷ []) (sym same) ∙ sym (take_more ns i n l))
  where
    taken : (ns : List (List ℕ)) (i : ℕ) → i < length ns → length (take i ns) ≡ i
    taken [] i l = absurd (omega (arith, l))
    taken (n ∷ ns) zero l = refl
    taken (n ∷ ns) (suc i) l = ap suc (taken ns i (omega (arith, l)))

-- a name that stands already keeps its place
pub first_stays : (f : List ℕ → Option ℕ) (n q : List ℕ) (i : ℕ) → is_some (f n) ≡ true → f q ≡ option_or (f q) (place_if (bytes_eq n q) i)
first_stays f n q i h = elim (bytes_eq n q) as (λ b. bytes_eq n q ≡ b → f q ≡ option_or (f q) (place_if b i)) [
  | true ↦ λ e. there (f q) (ap (λ w. is_some (f w)) (sym ((bytes_decides n q).0 e)) ∙ h)
  | false ↦ λ e. as_it_is (f q)
] refl
  where
    there : (o : Option ℕ) → is_some o ≡ true → o ≡ option_or o (Some i)
    there None e = cc
    there (Some x) e = refl

    as_it_is : (o : Option ℕ) → o ≡ option_or o None
    as_it_is None = refl
    as_it_is (Some x) = refl

-- a new name has this place
pub first_comes : (f g : List ℕ → Option ℕ) (n q : List ℕ) (i : ℕ) → f n ≡ None → g q ≡ update bytes_eq f n (Some i) q → g q ≡ option_or (f q) (place_if (bytes_eq n q) i)
first_comes f g n q i h u = u ∙ elim (bytes_eq n q) as (λ b. bytes_eq n q ≡ b → cond b (Some i) (f q) ≡ option_or (f q) (place_if b i)) [
  | true ↦ λ e. sym (ap (λ (o : Option ℕ). option_or o (Some i)) (ap f (sym ((bytes_decides n q).0 e)) ∙ h))
  | false ↦ λ e. as_it_is (f q)
] refl
  where
    as_it_is : (o : Option ℕ) → o ≡ option_or o None
    as_it_is None = refl
    as_it_is (Some x) = refl

-- the declaration at the first place of a name is the one of this name
pub declared_at : (ds : List Declaration) (q : List ℕ) → declared_as ds q ≡ option_and_then (slice_get ds) (position (map name_of ds) q)
declared_at [] q = refl
declared_at (d ∷ ds) q = elim (bytes_eq (name_of d) q) as (λ b. cond b (Some d) (declared_as ds q) ≡ option_and_then (slice_get (d ∷ ds)) (cond b (Some 0) (option_map suc (position (map name_of ds) q)))) [
  | true ↦ refl
  | false ↦ declared_at ds q ∙ moved (position (map name_of ds) q)
]
  where
    moved : (o : Option ℕ) → option_and_then (slice_get ds) o ≡ option_and_then (slice_get (d ∷ ds)) (option_map suc o)
    moved None = refl
    moved (Some k) = refl

names_of : (ps : List PlacedDeclaration) → names_in ps ≡ map name_of (decls_in ps)
names_of [] = refl
names_of (p ∷ ps) = ap (λ (ns : List (List ℕ)). name_of p.declaration ∷ ns) (names_of ps)

-- what the index finds
pub found_at : (ps : List PlacedDeclaration) (q : List ℕ) (o : Option ℕ) → o ≡ position (names_in ps) q → declared_as (decls_in ps) q ≡ option_and_then (slice_get (decls_in ps)) o
found_at ps q o e = declared_at (decls_in ps) q ∙ ap (λ (ns : List (List ℕ)). option_and_then (slice_get (decls_in ps)) (position ns q)) (sym (names_of ps)) ∙ ap (option_and_then (slice_get (decls_in ps))) (sym e)

-- the name of the item at a place
pub name_at : (ps : List PlacedDeclaration) (i : ℕ) (p : PlacedDeclaration) → i < length ps → p ≡ get_or ps i p → slice_get (names_in ps) i ≡ Some (name_of p.declaration)
name_at ps i p l e = slice_get-map (λ (x : PlacedDeclaration). name_of x.declaration) ps i ∙ ap (option_map (λ (x : PlacedDeclaration). name_of x.declaration)) (slice_get_read ps (length ps) i p refl l e)

pub declared_here : (ps : List PlacedDeclaration) (i : ℕ) → slice_get (decls_in ps) i ≡ option_map (λ (x : PlacedDeclaration). x.declaration) (slice_get ps i)
declared_here ps i = slice_get-map (λ (x : PlacedDeclaration). x.declaration) ps i

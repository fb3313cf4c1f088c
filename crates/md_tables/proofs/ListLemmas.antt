-- Tables as lists of rows.
use Rattle.std.proofs.Common.{◌≡◌, ℕ, suc, ◌<◌, List, [], ◌∷◌, ◌++◌, length, get_or, set, cond, eqb, true, false, inl, inr, refl, sym, ap, ◌∙◌}
use Rattle.std.specs.Prelude.{Vec}
use Rattle.arrayvec.specs.ArrayVec.{ArrayVec}
use Rattle.std.specs.declared.alloc.Global.{Global}
use Rattle.std.proofs.lemmas.Bool.{cases_eq, eq-eqb, ne_eqb}
use Rattle.std.proofs.lemmas.List.{get_or-map, get_or-set_same, get_or-set_other, map-set}
use Rattle.md_tables.specs.Lists.{cells_in, lists_in}

pub length-cells : (rows : List (ArrayVec ℕ)) → length (cells_in rows) ≡ length rows
length-cells [] = refl
length-cells (row ∷ rows) = ap suc (length-cells rows)

pub length-lists : (tables : List (Vec (ArrayVec ℕ) Global)) → length (lists_in tables) ≡ length tables
length-lists [] = refl
length-lists (table ∷ tables) = ap suc (length-lists tables)

pub cells_push : (rows : List (ArrayVec ℕ)) (row : ArrayVec ℕ) → cells_in (rows ++ row ∷ []) ≡ cells_in rows ++ row.items ∷ []
cells_push [] row = refl
cells_push (r ∷ rows) row = ap (λ (x : List (List ℕ)). r.items ∷ x) (cells_push rows row)

pub list_at : (tables : List (Vec (ArrayVec ℕ) Global)) (i : ℕ) (t : Vec (ArrayVec ℕ) Global) → i < length tables → t ≡ get_or tables i t → get_or (lists_in tables) i [] ≡ cells_in t.items
list_at tables i t lt e = get_or-map (λ (x : Vec (ArrayVec ℕ) Global). cells_in x.items) tables i t [] lt ∙ ap (λ (x : Vec (ArrayVec ℕ) Global). cells_in x.items) (sym e)

-- one table gets a row, the others stay
pub row_added : (xs : List (List (List ℕ))) (p q : ℕ) (row : List ℕ) (rows : List (List ℕ)) → p < length xs → rows ≡ get_or xs p [] ++ row ∷ []
    → get_or (set xs p rows) q [] ≡ cond (eqb q p) (get_or xs q [] ++ row ∷ []) (get_or xs q [])
row_added xs p q row rows lt e =
    elim (cases_eq q p) [
      | inl same ↦
          let t : eqb q p ≡ true = eq-eqb q p same in
          rw t (ap (λ (k : ℕ). get_or (set xs p rows) k []) same ∙ get_or-set_same xs p rows [] lt ∙ e ∙ ap (λ (k : ℕ). get_or xs k [] ++ row ∷ []) (sym same))
      | inr other ↦
          let t : eqb q p ≡ false = ne_eqb q p other in
          rw t (get_or-set_other xs p q rows [] other)
    ]

pub row_kept : (xs : List (List (List ℕ))) (p q : ℕ) (rows : List (List ℕ)) → p < length xs → rows ≡ get_or xs p [] → get_or (set xs p rows) q [] ≡ get_or xs q []
row_kept xs p q rows lt e =
    elim (cases_eq q p) [
      | inl same ↦ ap (λ (k : ℕ). get_or (set xs p rows) k []) same ∙ get_or-set_same xs p rows [] lt ∙ e ∙ ap (λ (k : ℕ). get_or xs k []) (sym same)
      | inr other ↦ get_or-set_other xs p q rows [] other
    ]

-- a table in its place among the lists
pub lists_set : (tables : List (Vec (ArrayVec ℕ) Global)) (p : ℕ) (t : Vec (ArrayVec ℕ) Global) → lists_in (set tables p t) ≡ set (lists_in tables) p (cells_in t.items)
lists_set tables p t = map-set (λ (x : Vec (ArrayVec ℕ) Global). cells_in x.items) tables p t

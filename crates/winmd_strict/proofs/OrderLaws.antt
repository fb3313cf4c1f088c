-- Lists that begin where their lines stand run forward.
use Rattle.std.proofs.Common.{◌≡◌, ℕ, zero, suc, ◌≤◌, true, false, ltb, List, [], ◌∷◌, length, map, get_or, None, refl, sym, ap, arith, inl, inr}
use Rattle.std.specs.List.{list_all}
use Rattle.std.proofs.lemmas.Bool.{and_parts, lt-ltb, le-ltb, cases_lt}
use Rattle.md_schema.specs.declared.table.Table.{Table}
use Rattle.md_schema.specs.declared.column.Column.{Column}
use Rattle.md_schema.specs.declared.column.Column.TheVariants.{One, Index}
use Rattle.md_schema.specs.Schema.{columns_of}
use Rattle.md_tables.specs.Faults.{list_begin, list_end, is_disordered, disordered_row}
use Rattle.md_tables.proofs.FirstLemmas.{none_from}
use Rattle.winmd_lines.specs.Lines.{Drawn, Number, Next, Line}
use Rattle.winmd_lines.specs.Names.{Names, Counts, is_in, behind, value_of, written}
use Rattle.winmd_lines.specs.Positions.{behind_all, cell_of}
use Rattle.winmd_lines.proofs.LineLaws.{either, same_place}
use Rattle.winmd_sets.specs.LineShapes.{begins_list, is_next}
use Rattle.winmd_strict.specs.Placed.{Heaped, numbers_in_row}

-- rows whose numbers in a column ascend from one bound to another
abbrev pub Ascends : ℕ → ℕ → ℕ → List (List ℕ) → Type 0
Ascends column lo hi [] = lo ≤ hi
Ascends column lo hi (row ∷ rows) = (lo ≤ get_or row column 0) × Ascends column (get_or row column 0) hi rows

low : (column lo hi : ℕ) (rows : List (List ℕ)) → Ascends column lo hi rows → lo ≤ hi
low column lo hi [] h = h
low column lo hi (row ∷ rows) h = let rest = low column (get_or row column 0) hi rows h.1 in omega (arith, rest, h.0)

in_bounds : (lo members m : ℕ) (column : ℕ) (rows : List (List ℕ)) → Ascends column lo (suc members) rows → (list_begin rows column m ≤ list_end rows column members m) × (list_end rows column members m ≤ suc members)
in_bounds lo members m column [] h = (let t : ltb (suc m) 0 ≡ false = le-ltb _ _ (omega arith) in rw t (omega arith, omega arith))
in_bounds lo members zero column (row ∷ []) h = (low column (get_or row column 0) (suc members) [] h.1, omega arith)
in_bounds lo members zero column (row ∷ next ∷ rows) h =
    let t : ltb 1 (suc (suc (length rows))) ≡ true = lt-ltb _ _ (omega arith) in
    let upper = low column (get_or next column 0) (suc members) rows h.1.1 in
    rw t (h.1.0, upper)
in_bounds lo members (suc m) column (row ∷ rows) h =
    let rest = in_bounds (get_or row column 0) members m column rows h.1 in
    elim (cases_lt (suc m) (length rows)) [
      | inl l ↦
          let e : ltb (suc m) (length rows) ≡ true = lt-ltb _ _ l in
          let t : ltb (suc (suc m)) (suc (length rows)) ≡ true = lt-ltb _ _ (omega (arith, l)) in
          let r = rw e at rest in rw t r
      | inr l ↦
          let e : ltb (suc m) (length rows) ≡ false = le-ltb _ _ l in
          let t : ltb (suc (suc m)) (suc (length rows)) ≡ false = le-ltb _ _ (omega (arith, l)) in
          let r = rw e at rest in rw t r
    ]

pub run_forward : (lo members : ℕ) (column : ℕ) (rows : List (List ℕ)) → Ascends column lo (suc members) rows → disordered_row rows column members ≡ None
run_forward lo members column rows h = none_from (is_disordered rows column members) 0 (length rows) (λ m.
    let b = in_bounds lo members m column rows h in
    let one : ltb (list_end rows column members m) (list_begin rows column m) ≡ false = le-ltb _ _ b.0 in
    let two : ltb (suc members) (list_end rows column members m) ≡ false = le-ltb _ _ b.1 in
    rw (one, two) refl)

next_is : (table : Table) (cell : Drawn) → is_next table cell ≡ true → cell ≡ Next table
next_is table (Next other) h = ap (λ (t : Table). Next t) (sym (same_place table other h))
next_is table _ h = absurd cc

number_is : (heaps : Heaped) (names : Names) (before : Counts) (columns : List Column) (cells : List Drawn) (column : ℕ) (member : Table) → get_or columns column One ≡ Index member → get_or cells column (Number 0) ≡ Next member
    → get_or (numbers_in_row heaps columns (map (value_of names before) cells)) column 0 ≡ suc (before member)
number_is heaps names before [] cells column member k e = absurd cc
number_is heaps names before (c ∷ cs) [] column member k e = absurd cc
number_is heaps names before (c ∷ cs) (x ∷ xs) zero member k e = rw (k, e) refl
number_is heaps names before (c ∷ cs) (x ∷ xs) (suc column) member k e = number_is heaps names before cs xs column member k e

grows : (before : Counts) (l : Line) (t : Table) → before t ≤ behind before l t
grows before l t = elim (either (is_in t l)) [ inl e ↦ rw e (omega arith) | inr e ↦ rw e (omega arith) ]

module _ (heaps : Heaped) (names : Names) (owner : Table) (column : ℕ) (member : Table) (index : get_or (columns_of owner) column One ≡ Index member) where
  pub ascend : (before : Counts) (lines : List Line) (lo : ℕ) → lo ≤ suc (before member) → list_all (begins_list owner column member) lines ≡ true
      → Ascends column lo (suc (behind_all before lines member)) (map (numbers_in_row heaps (columns_of owner)) (written names before lines owner))
  ascend before [] lo le h = le
  ascend before (l ∷ ls) lo le h =
      let both = and_parts (begins_list owner column member l) (list_all (begins_list owner column member) ls) h in
      let up = grows before l member in
      elim (either (is_in owner l)) [
        | inl e ↦
            let next : is_next member (cell_of l column) ≡ true = rw e at both.0 in
            let n = number_is heaps names before (columns_of owner) l.cells column member index (next_is member (cell_of l column) next) in
            rw (e, n) (le, ascend (behind before l) ls (suc (before member)) (omega (arith, up)) both.1)
        | inr e ↦ rw e (ascend (behind before l) ls lo (omega (arith, up, le)) both.1)
      ]

-- The lists of all rows begin where they stand.
use Rattle.std.proofs.Common.{◌≡◌, ℕ, suc, Bool, true, false, List, [], ◌∷◌, map, Ok, refl, inl, inr}
use Rattle.std.specs.Prelude.{◌==◌, ◌&&◌}
use Rattle.std.specs.List.{list_all}
use Rattle.std.proofs.Math.Dec.{eqb-suc-zero}
use Rattle.std.proofs.lemmas.Bool.{and_parts}
use Rattle.md_schema.specs.declared.table.Table.{Table}
use Rattle.md_schema.specs.declared.table.Table.TheVariants as tables
use Rattle.winmd_rows.specs.Faults.{each}
use Rattle.winmd_rows.specs.Values.{Value, Offsets, stated_row}
use Rattle.wr_base.specs.Trees.{DeclTree}
use Rattle.winmd_lines.specs.Cells.{Tables, numbered, row_in}
use Rattle.winmd_lines.specs.Lines.{Drawn, Next, Line}
use Rattle.winmd_lines.specs.Names.{Names, Counts, none, is_in, behind, written}
use Rattle.winmd_lines.specs.Positions.{cell_of}
use Rattle.winmd_lines.proofs.LineLaws.{either, row_of, cell_is}
use Rattle.winmd_sets.specs.LineShapes.{line_ok, line_fits, begins_list, is_next}
use Rattle.winmd_sets.specs.Rows.{all_lines}
use Rattle.winmd_sets.specs.Types.{begun, all_begin}
use Rattle.winmd_sets.proofs.AttributeLaws.{tables_of}
use Rattle.winmd_sets.proofs.FitPieces.{fit_all}

next_begins : (names : Names) (before : Counts) (l : Line) (column : ℕ) (member : Table) (c : Drawn) → cell_of l column ≡ c → is_next member c ≡ true → (k : ℕ) × (row_in (row_of names before l) column ≡ Ok (suc k))
next_begins names before l column member (Next other) e h = (before other, rw (cell_is names before l.cells column, e) refl)
next_begins names before l column member (Drawn.Number n) e h = absurd cc
next_begins names before l column member (Drawn.Words w) e h = absurd cc
next_begins names before l column member (Drawn.Bytes b) e h = absurd cc
next_begins names before l column member (Drawn.Guid n) e h = absurd cc
next_begins names before l column member (Drawn.To t n) e h = absurd cc
next_begins names before l column member (Drawn.Last t) e h = absurd cc
next_begins names before l column member (Drawn.Type_ u) e h = absurd cc
next_begins names before l column member (Drawn.MadeBy m) e h = absurd cc
next_begins names before l column member (Drawn.OfField u) e h = absurd cc
next_begins names before l column member (Drawn.OfProperty u) e h = absurd cc
next_begins names before l column member (Drawn.OfMethod s) e h = absurd cc
next_begins names before l column member (Drawn.OfSpec u) e h = absurd cc

all_trues : List (List Value) → List Bool
all_trues [] = []
all_trues (row ∷ rows) = true ∷ all_trues rows

begin : (t : Tables) (names : Names) (before : Counts) (n : ℕ) (lines : List Line) (owner : Table) (column : ℕ) (member : Table) → list_all (begins_list owner column member) lines ≡ true
    → each (begun t owner column member) (numbered n (map stated_row (written names before lines owner))) ≡ Ok (all_trues (written names before lines owner))
unfolding all_trues
begin t names before n [] owner column member h = refl
begin t names before n (l ∷ ls) owner column member h =
    let both = and_parts (begins_list owner column member l) (list_all (begins_list owner column member) ls) h in
    elim (either (is_in owner l)) [
      | inl e ↦
          let next : is_next member (cell_of l column) ≡ true = rw e at both.0 in
          let first = next_begins names before l column member (cell_of l column) refl next in
          let some : (suc first.0 == 0) ≡ false = eqb-suc-zero first.0 in
          let rest = begin t names (behind before l) (suc n) ls owner column member both.1 in
          rw (e, first.1, some, rest) refl
      | inr e ↦ rw e (begin t names (behind before l) n ls owner column member both.1)
    ]

-- what each line has
pub all_have : (P Q : Line → Bool) → ((l : Line) → P l ≡ true → Q l ≡ true) → (lines : List Line) → list_all P lines ≡ true → list_all Q lines ≡ true
all_have P Q f [] h = refl
all_have P Q f (l ∷ ls) h = let both = and_parts (P l) (list_all P ls) h in rw (f l both.0, all_have P Q f ls both.1) refl

abbrev pub field_list : Line → Bool
field_list = begins_list tables.TypeDef 4 tables.Field

abbrev pub method_list : Line → Bool
method_list = begins_list tables.TypeDef 5 tables.MethodDef

abbrev pub param_list : Line → Bool
param_list = begins_list tables.MethodDef 5 tables.Param

abbrev pub event_list : Line → Bool
event_list = begins_list tables.EventMap 1 tables.Event

abbrev pub property_list : Line → Bool
property_list = begins_list tables.PropertyMap 1 tables.Property

abbrev pub Six : Line → Type 0
Six l = (line_fits l ≡ true) × (field_list l ≡ true) × (method_list l ≡ true) × (param_list l ≡ true) × (event_list l ≡ true) × (property_list l ≡ true)

pub six : (l : Line) → line_ok l ≡ true → Six l
six l h =
    let a = and_parts (line_fits l) (field_list l && (method_list l && (param_list l && (event_list l && property_list l)))) h in
    let b = and_parts (field_list l) (method_list l && (param_list l && (event_list l && property_list l))) a.1 in
    let c = and_parts (method_list l) (param_list l && (event_list l && property_list l)) b.1 in
    let d = and_parts (param_list l) (event_list l && property_list l) c.1 in
    let e = and_parts (event_list l) (property_list l) d.1 in
    (a.0, b.0, c.0, d.0, e.0, e.1)

pub all_begun : (names : Names) (ds : List DeclTree) (offset : Offsets) → (trues : List Bool) × (all_begin (tables_of names ds offset) ≡ Ok trues)
all_begun names ds offset =
    let t : Tables = tables_of names ds offset in
    let lines : List Line = all_lines names ds in
    let ok : list_all line_ok lines ≡ true = fit_all names ds in
    let a = begin t names none 1 lines tables.TypeDef 4 tables.Field (all_have line_ok field_list (λ l h. (six l h).1) lines ok) in
    let b = begin t names none 1 lines tables.TypeDef 5 tables.MethodDef (all_have line_ok method_list (λ l h. (six l h).2) lines ok) in
    let c = begin t names none 1 lines tables.MethodDef 5 tables.Param (all_have line_ok param_list (λ l h. (six l h).3) lines ok) in
    let d = begin t names none 1 lines tables.EventMap 1 tables.Event (all_have line_ok event_list (λ l h. (six l h).4) lines ok) in
    let e = begin t names none 1 lines tables.PropertyMap 1 tables.Property (all_have line_ok property_list (λ l h. (six l h).5) lines ok) in
    (all_trues (written names none lines tables.PropertyMap), rw (a, b, c, d, e) refl)

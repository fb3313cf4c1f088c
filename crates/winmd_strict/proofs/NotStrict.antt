-- Images that aren't strict.
use Rattle.std.proofs.Common.{◌≡◌, ℕ, List, [], ◌∷◌, length, take, get_or, Result, Ok, Err, refl, sym, ap, subst, ◌∙◌, arith}
use Rattle.md_schema.specs.declared.table.Table.{Table}
use Rattle.md_schema.specs.declared.table.Table.TheVariants as tables
use Rattle.md_schema.specs.declared.column.Column.TheVariants.{Texts}
use Rattle.winmd_image.specs.Parts.{Parts}
use Rattle.winmd_image.specs.Spelled.{dos_header, image_bytes}
use Rattle.winmd_rows.specs.Faults.{Fault}
use Rattle.winmd_rows.specs.Values.{Value, Rows, Offsets, Cell, stated}
use Rattle.wr_base.specs.Trees.{DeclTree, name_of}
use Rattle.winmd_lines.specs.Cells.{Tables, as_number, as_row}
use Rattle.winmd_lines.proofs.SettleLaws.{set_rising}
use Rattle.sig_blobs.specs.Reading.{integer}
use Rattle.sig_blobs.specs.Uses.{behind_modifiers, use_within}
use Rattle.winmd_sets.specs.Fits.{Fits}
use Rattle.winmd_sets.specs.Rows.{rows_of}
use Rattle.winmd_sets.specs.Types.{types_of}
use Rattle.winmd_sets.proofs.ReachLaws.{rows_state}
use Rattle.winmd_strict.specs.Placed.{Heaped, Placed, Holds, numbers_in_row}
use Rattle.winmd_strict.specs.Reading.{RowsOf}
use Rattle.winmd_strict.specs.Strict.{Strict}
use Rattle.winmd_strict.specs.Wrong.{one, two, further_row, wrong_flag, unsorted}
use Rattle.winmd_strict.proofs.StrictLaws.{strict_rows}

-- ---- bytes

begins_mz : (p : Parts) → take 2 (image_bytes p) ≡ 77 ∷ 90 ∷ []
unfolding dos_header
begins_mz p = refl

no_nil : take 2 (let none : List ℕ = [] in none) ≡ 77 ∷ 90 ∷ [] → ⊥
no_nil e = cc

pub not_empty : Strict [] → ⊥
not_empty s = no_nil (ap (λ (x : List ℕ). take 2 x) s.spelled ∙ begins_mz _)

pub not_begun : (rest : List ℕ) (index : List ℕ → ℕ) (blobs : Placed) (rows : Table → List (List Value)) → Holds (record { texts = record { bytes = 65 ∷ rest; index = index }; blobs = blobs }) rows → ⊥
not_begun rest index blobs rows h = let e = h.texts in cc

-- one content has one index
pub one_index : (heaps : Heaped) (text : List ℕ) (a b : ℕ) → numbers_in_row heaps (Texts ∷ Texts ∷ []) (Value.Text text ∷ Value.Text text ∷ []) ≡ a ∷ b ∷ [] → a ≡ b
one_index heaps text a b h = sym (ap (λ (r : List ℕ). get_or r 0 0) h) ∙ ap (λ (r : List ℕ). get_or r 1 0) h

-- ---- rows

abbrev rows_or : Result Tables Fault → Rows
rows_or (Ok t) = t.rows
rows_or (Err e) = λ table. []

abbrev set_or : Result (List DeclTree) Fault → List DeclTree
set_or (Ok ds) = ds
set_or (Err e) = []

-- Rows that state a set, and aren't the rows of that set, stand in no strict image of a set that fits.
not_rows : (rows : Rows) (ds : List DeclTree) (at : Offsets) (bytes : List ℕ) → types_of (record { rows = rows; offset = at }) ≡ Ok ds → RowsOf bytes ≡ Ok (record { rows = rows; offset = at })
    → (s : Strict bytes) → Fits s.declared → rows ≡ stated (rows_of ds)
not_rows rows ds at bytes states has s fits =
    let mine = strict_rows bytes s in
    let same : rows ≡ stated (rows_of s.declared) = ap rows_or (sym has ∙ mine.1) in
    let law : types_of (record { rows = stated (rows_of s.declared); offset = at }) ≡ Ok s.declared = rows_state s.declared at fits ∙ ap (λ (x : List DeclTree). Ok x) (set_rising name_of s.declared s.ordered) in
    let again : types_of (record { rows = rows; offset = at }) ≡ Ok s.declared = subst (λ (r : Rows). types_of (record { rows = r; offset = at }) ≡ Ok s.declared) (sym same) law in
    let set : s.declared ≡ ds = ap set_or (sym again ∙ states) in
    same ∙ ap (λ (x : List DeclTree). stated (rows_of x)) set

abbrev cell_or : Cell → Value
cell_or (Ok value) = value
cell_or (Err e) = Value.Number 0

-- a cell of a table
abbrev cell_at : Rows → Table → ℕ → ℕ → Value
cell_at rows table n column = cell_or (get_or (get_or (rows table) n []) column (Ok (Value.Number 0)))

further_read : (at : Offsets) → types_of (record { rows = further_row; offset = at }) ≡ Ok one
unfolding integer behind_modifiers use_within
further_read at = refl

flag_read : (at : Offsets) → types_of (record { rows = wrong_flag; offset = at }) ≡ Ok one
unfolding integer behind_modifiers use_within
flag_read at = refl

unsorted_read : (at : Offsets) → types_of (record { rows = unsorted; offset = at }) ≡ Ok two
unfolding integer behind_modifiers use_within
unsorted_read at = refl

pub not_further : (at : Offsets) (bytes : List ℕ) → RowsOf bytes ≡ Ok (record { rows = further_row; offset = at }) → (s : Strict bytes) → Fits s.declared → ⊥
not_further at bytes has s fits =
    let e = not_rows further_row one at bytes (further_read at) has s fits in
    let n : 3 ≡ 2 = ap (λ (r : Rows). length (r tables.TypeRef)) e in
    omega (arith, n)

pub not_flag : (at : Offsets) (bytes : List ℕ) → RowsOf bytes ≡ Ok (record { rows = wrong_flag; offset = at }) → (s : Strict bytes) → Fits s.declared → ⊥
not_flag at bytes has s fits =
    let e = not_rows wrong_flag one at bytes (flag_read at) has s fits in
    let n : 0x4101 ≡ 0x4109 = ap (λ (r : Rows). as_number (cell_at r tables.TypeDef 1 0)) e in
    omega (arith, n)

pub not_unsorted : (at : Offsets) (bytes : List ℕ) → RowsOf bytes ≡ Ok (record { rows = unsorted; offset = at }) → (s : Strict bytes) → Fits s.declared → ⊥
not_unsorted at bytes has s fits =
    let e = not_rows unsorted two at bytes (unsorted_read at) has s fits in
    let n : 3 ≡ 2 = ap (λ (r : Rows). as_row (cell_at r tables.CustomAttribute 0 0)) e in
    omega (arith, n)

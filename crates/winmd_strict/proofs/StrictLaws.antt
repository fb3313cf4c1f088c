-- A strict image states what was declared.
use Rattle.std.proofs.Common.{◌≡◌, ℕ, ◌+◌, get_or, true, List, length, map, None, Result, Ok, refl, ap, ◌∙◌, arith}
use Rattle.std.specs.List.{list_all}
use Rattle.std.proofs.lemmas.List.{length-map}
use Rattle.md_schema.specs.declared.table.Table.{Table}
use Rattle.md_schema.specs.declared.table.Table.TheVariants as tables
use Rattle.md_schema.specs.declared.column.Column.TheVariants.{One, Index}
use Rattle.md_schema.specs.Schema.{columns_of}
use Rattle.md_tables.specs.Faults.{disorder, disordered_row, row_lists}
use Rattle.winmd_rows.specs.Values.{Value, Offsets, stated}
use Rattle.winmd_lines.specs.Lines.{Line}
use Rattle.winmd_lines.specs.Names.{Names, none, written}
use Rattle.winmd_lines.specs.Positions.{behind_all}
use Rattle.winmd_sets.specs.Rows.{all_lines, in_order, names_of, arranged, rows_of}
use Rattle.wr_base.specs.Trees.{DeclTree, name_of}
use Rattle.winmd_lines.proofs.LineLaws.{length-none}
use Rattle.winmd_sets.proofs.ReachLaws.{rows_state}
use Rattle.winmd_sets.specs.Fits.{Fits}
use Rattle.winmd_image.specs.Parts.{Parts}
use Rattle.winmd_sets.specs.LineShapes.{line_ok, line_fits, begins_list}
use Rattle.winmd_rows.specs.Values.{offsets_of}
use Rattle.winmd_strict.specs.Reading.{RowsOf, TypesOf}
use Rattle.winmd_strict.specs.Strict.{Strict}
use Rattle.winmd_rows.specs.Faults.{Fault, ◌>>=◌}
use Rattle.winmd_sets.specs.Types.{types_of}
use Rattle.winmd_lines.specs.Cells.{Tables}
use Rattle.winmd_lines.proofs.SettleLaws.{set_rising}
use Rattle.winmd_strict.specs.Placed.{Heaped, numbers_in_row, numbers_of, parts_with}
use Rattle.winmd_strict.proofs.CellReads.{RowsFit}
use Rattle.winmd_sets.proofs.FitPieces.{fit_all}
use Rattle.winmd_sets.proofs.BeginLaws.{all_have, field_list, method_list, param_list, event_list, property_list, six}
use Rattle.winmd_strict.proofs.OrderLaws.{ascend, run_forward}
use Rattle.winmd_strict.proofs.ShapeRows.{written_fit, in_order_all}
use Rattle.winmd_strict.proofs.WholeLaws.{placed_rows}

module _ (heaps : Heaped) (names : Names) (lines : List Line) (ok : list_all line_ok lines ≡ true) where
  abbrev rows : Table → List (List Value)
  rows table = in_order table (written names none lines table)

  pub rows_fit : RowsFit rows
  rows_fit = λ t. in_order_all _ t (written names none lines t) (written_fit names none lines (all_have line_ok line_fits (λ l h. (six l h).0) lines ok) t)

  forward : (owner : Table) (column : ℕ) (member : Table) → list_all (begins_list owner column member) lines ≡ true → get_or (columns_of owner) column One ≡ Index member
      → disordered_row (map (numbers_in_row heaps (columns_of owner)) (written names none lines owner)) column (length (map (numbers_in_row heaps (columns_of member)) (written names none lines member))) ≡ None
  forward owner column member h index =
      let many : length (map (numbers_in_row heaps (columns_of member)) (written names none lines member)) ≡ behind_all none lines member =
      length-map (written names none lines member) (numbers_in_row heaps (columns_of member)) ∙ length-none names lines member in
      let up = ascend heaps names owner column member index none lines 1 (omega arith) h in
      ap (λ (n : ℕ). disordered_row (map (numbers_in_row heaps (columns_of owner)) (written names none lines owner)) column n) many ∙ run_forward 1 (behind_all none lines member) column _ up

  pub ordered : disorder (numbers_of heaps rows) row_lists ≡ None
  unfolding disorder
  ordered =
      let a = forward tables.TypeDef 4 tables.Field (all_have line_ok field_list (λ l h. (six l h).1) lines ok) refl in
      let b = forward tables.TypeDef 5 tables.MethodDef (all_have line_ok method_list (λ l h. (six l h).2) lines ok) refl in
      let c = forward tables.MethodDef 5 tables.Param (all_have line_ok param_list (λ l h. (six l h).3) lines ok) refl in
      let d = forward tables.EventMap 1 tables.Event (all_have line_ok event_list (λ l h. (six l h).4) lines ok) refl in
      let e = forward tables.PropertyMap 1 tables.Property (all_have line_ok property_list (λ l h. (six l h).5) lines ok) refl in
      rw (a, b, c, d, e) refl

-- The rows of a strict image are those of its declarations.
pub strict_rows : (bytes : List ℕ) (s : Strict bytes) → (at : Offsets) × (RowsOf bytes ≡ Ok (record { rows = stated (rows_of s.declared); offset = at }))
strict_rows bytes s =
    let names : Names = names_of s.declared in
    let lines : List Line = all_lines names (map (arranged names) s.declared) in
    let good : list_all line_ok lines ≡ true = fit_all names (map (arranged names) s.declared) in
    let parts : Parts = parts_with s.heaps.texts.bytes s.heaps.blobs.bytes (numbers_of s.heaps (rows_of s.declared)) in
    (offsets_of (584 + 116) parts.tables, ap RowsOf s.spelled ∙ placed_rows s.heaps (rows_of s.declared) (rows_fit s.heaps names lines good) s.holds s.columns (ordered s.heaps names lines good) s.small)

-- A strict image states the set that was declared.
pub strict_states : (bytes : List ℕ) (s : Strict bytes) → Fits s.declared → TypesOf bytes ≡ Ok s.declared
strict_states bytes s fits =
    let rows = strict_rows bytes s in
    ap (λ (r : Result Tables Fault). r >>= λ t. types_of t) rows.1 ∙ rows_state s.declared rows.0 fits ∙ ap (λ (ds : List DeclTree). Ok ds) (set_rising name_of s.declared s.ordered)

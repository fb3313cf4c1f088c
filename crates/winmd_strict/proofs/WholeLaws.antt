-- An image that is written by placement has its rows.
use Rattle.std.proofs.Common.{◌≡◌, ℕ, ◌+◌, ◌-◌, ◌≤◌, false, List, ◌++◌, length, map, Option, None, Result, Ok, refl, ap, ◌∙◌, arith, length-append, append_assoc}
use Rattle.std.specs.Prelude.{option_map, is_some}
use Rattle.std.specs.List.{flat_map}
use Rattle.md_schema.specs.declared.table.Table.{Table}
use Rattle.md_schema.specs.declared.sizes.Sizes.{Sizes}
use Rattle.md_schema.specs.declared.faults.ImageFault.{ImageFault}
use Rattle.md_schema.specs.declared.faults.ImageKind.TheVariants as kinds
use Rattle.md_schema.specs.Schema.{all_tables}
use Rattle.md_schema.specs.Tables.{valid_of, sizes_of, rows_from, rows_end, raw}
use Rattle.md_schema.specs.Written.{bits, row_counts, rows_bytes, table_head, table_bytes, Fit}
use Rattle.md_schema.proofs.CountLemmas.{length-table_head}
use Rattle.md_schema.proofs.TablesLemmas.{raw_again, written_end}
use Rattle.md_tables.specs.declared.lists.RowList.{RowList}
use Rattle.md_tables.specs.Faults.{first_from, is_unknown, has_unknown, fault_of, disorder, row_lists, list_fault, list_place, or_else}
use Rattle.md_schema.specs.Faults.{fault_at}
use Rattle.md_tables.specs.Numbers.{Rows, by_number, count_or}
use Rattle.md_tables.proofs.HeaderLemmas.{whole_rows}
use Rattle.md_tables.proofs.FirstLemmas.{none_from}
use Rattle.md_tables.proofs.WholeLemmas.{funext, valid_is, unknown_none}
use Rattle.winmd_rows.specs.Faults.{Fault, ◌>>=◌}
use Rattle.winmd_image.specs.Parts.{Parts}
use Rattle.winmd_image.specs.Spelled.{image_bytes}
use Rattle.md_bytes.specs.Padding.{padded, zeros, up}
use Rattle.winmd_rows.specs.Values.{Value, Heaps, followed, stated}
use Rattle.winmd_rows.specs.Values as values
use Rattle.winmd_image.specs.Parts.{Small}
use Rattle.winmd_image.proofs.FoundLaws.{taken_apart}
use Rattle.winmd_lines.specs.Cells.{Tables}
use Rattle.winmd_rows.specs.Values.{offsets_of}
use Rattle.winmd_strict.specs.Reading.{moved, rows_in, rows_of_slices, RowsOf}
use Rattle.winmd_strict.specs.Placed.{Heaped, Holds, heaps_in, numbers_of, parts_with, sizes_of_rows}
use Rattle.winmd_strict.proofs.CellReads.{RowsFit, all_follow}

-- what is written has no fault, whatever stands behind it
pub faultless : (sizes : Sizes) (rows : Rows) (rest : List ℕ) → Fit sizes rows → sizes.rows ≡ map (count_or rows) by_number → disorder rows row_lists ≡ None → fault_of (table_bytes sizes rows ++ rest) ≡ None
faultless sizes rows rest fit is ordered =
    let stream : List ℕ = table_bytes sizes rows in
    let bytes : List ℕ = stream ++ rest in
    let tail : List ℕ = row_counts sizes.rows ++ (flat_map (rows_bytes sizes rows) all_tables ++ rest) in
    let front : bytes ≡ table_head sizes ++ tail =
    append_assoc (table_head sizes ++ row_counts sizes.rows) (flat_map (rows_bytes sizes rows) all_tables) rest
    ∙ append_assoc (table_head sizes) (row_counts sizes.rows) (flat_map (rows_bytes sizes rows) all_tables ++ rest) in
    let long : 24 ≤ length bytes = omega (arith, ap length front, length-append (table_head sizes) tail, length-table_head sizes) in
    let valid : valid_of bytes ≡ bits (map (count_or rows) by_number) = ap valid_of front ∙ valid_is sizes tail fit.many ∙ ap bits is in
    let none : first_from (is_unknown (bits (map (count_or rows) by_number))) 0 64 ≡ None = none_from (is_unknown (bits (map (count_or rows) by_number))) 0 64 (unknown_none rows) in
    let known : has_unknown (valid_of bytes) ≡ false = ap has_unknown valid ∙ ap (λ (o : Option ℕ). is_some o) none in
    let ends : rows_end bytes ≤ length bytes = omega (arith, written_end sizes rows rest fit, length-append stream rest) in
    let lists : disorder (raw bytes) row_lists ≡ None = ap (λ (r : Rows). disorder r row_lists) (funext (raw bytes) rows (λ t. raw_again sizes rows rest t fit)) ∙ ordered in
    let no_list : list_fault bytes ≡ None = ap (λ (d : Option (RowList × ℕ)). option_map (λ (found : RowList × ℕ). fault_at kinds.ListOrder (list_place (sizes_of bytes) (rows_from bytes) found.0 found.1)) d) lists in
    ap (λ (o : Option ImageFault). or_else o (list_fault bytes)) (whole_rows bytes long known ends) ∙ no_list

abbrev tables_in : List ℕ → values.Rows → ℕ → Result Tables Fault
tables_in bytes rows at = Ok (record { rows = rows; offset = offsets_of at bytes })

module _ (heaps : Heaped) (rows : Table → List (List Value)) where
  abbrev raws : Table → List (List ℕ)
  raws = numbers_of heaps rows

  abbrev sizes : Sizes
  sizes = sizes_of_rows heaps.texts.bytes heaps.blobs.bytes raws

  abbrev parts : Parts
  parts = parts_with heaps.texts.bytes heaps.blobs.bytes raws

  stream_states : (at : ℕ) → RowsFit rows → Holds heaps rows → Fit sizes raws → disorder raws row_lists ≡ None
      → rows_in at (padded (table_bytes sizes raws)) (heaps_in heaps) ≡ Ok (record { rows = stated rows; offset = offsets_of at (padded (table_bytes sizes raws)) })
  stream_states at shaped holds fit ordered =
      let stream : List ℕ = table_bytes sizes raws in
      let rest : List ℕ = zeros (up (length stream) 4 - length stream) in
      let bytes : List ℕ = stream ++ rest in
      let whole : fault_of bytes ≡ None = faultless sizes raws rest fit refl ordered in
      let again : raw bytes ≡ raws = funext (raw bytes) raws (λ t. raw_again sizes raws rest t fit) in
      let same : followed (heaps_in heaps) (offsets_of at bytes) (raw bytes) ≡ stated rows =
      ap (λ (r : Table → List (List ℕ)). followed (heaps_in heaps) (offsets_of at bytes) r) again ∙ funext (followed (heaps_in heaps) (offsets_of at bytes) raws) (stated rows) (all_follow heaps (offsets_of at bytes) rows shaped holds) in
      ap (λ (f : Option ImageFault). moved at f >>= λ whole. tables_in bytes (followed (heaps_in heaps) (offsets_of at bytes) (raw bytes)) at) whole
      ∙ ap (λ (x : values.Rows). tables_in bytes x at) same

  -- the image of rows by placement has these rows
  pub placed_rows : RowsFit rows → Holds heaps rows → Fit sizes raws → disorder raws row_lists ≡ None → Small parts
      → RowsOf (image_bytes parts) ≡ Ok (record { rows = stated rows; offset = offsets_of (584 + 116) parts.tables })
  placed_rows shaped holds fit ordered small =
      ap rows_of_slices (taken_apart parts small) ∙ stream_states (584 + 116) shaped holds fit ordered

-- Rows that are known stand for what they say: the writer's heaps hold them, and their numbers are those by placement.
use Rattle.std.proofs.Common.{◌≡◌, ℕ, ◌^◌, true, ltb, List, [], ◌∷◌, length, map, get_or, Option, Some, None, Result, Ok, Err, refl, sym, ap, subst, ◌∙◌}
use Rattle.std.proofs.Math.Logic.{∥∥₁_map}
use Rattle.std.specs.Prelude.{is_some, unwrap_or, IfSome, IfOk, OnOk}
use Rattle.std.specs.List.{AllByRecursion, list_all}
use Rattle.std.proofs.lemmas.Bool.{and_parts, ltb-true}
use Rattle.md_bytes.specs.Bytes.{part_at}
use Rattle.md_heaps.specs.Blobs.{BlobHere, blob_bytes}
use Rattle.md_heaps.specs.Heaps.{Heap, index_of, EachStands}
use Rattle.md_heaps.specs.Reading.{text_at, blob_at}
use Rattle.md_heaps.specs.Texts.{TextAt, text_bytes}
use Rattle.md_schema.specs.declared.table.Table.{Table}
use Rattle.md_schema.specs.declared.table.Table.TheVariants as tables
use Rattle.md_schema.specs.declared.column.Column.{Column}
use Rattle.md_schema.specs.declared.column.Column.TheVariants.{One, Two, Four, Texts, Guids, Blobs, Index, Coded}
use Rattle.md_schema.specs.declared.column.CodedIndex.{CodedIndex}
use Rattle.md_schema.specs.declared.column.CodedIndex.TheVariants as coded
use Rattle.md_schema.specs.declared.faults.ImageFault.{ImageFault}
use Rattle.md_schema.specs.Codes.{code_of, target_of}
use Rattle.md_schema.specs.Schema.{choices_of, bits_of, columns_of}
use Rattle.md_schema.specs.Written.{Fit}
use Rattle.md_schema.proofs.CodesLemmas.{decoded}
use Rattle.winmd_image.specs.Parts.{Small}
use Rattle.winmd_image.specs.Spelled.{image_bytes}
use Rattle.winmd_lines.specs.Orders.{Rising}
use Rattle.winmd_rows.specs.Values as values
use Rattle.winmd_sets.specs.Rows.{rows_of, code_of_cell}
use Rattle.winmd_strict.specs.Placed.{Placed, Heaped, HoldsCell, number_in_cell, numbers_in_row, numbers_of, parts_with, sizes_of_rows}
use Rattle.wr_base.specs.Trees.{DeclTree, name_of}
use Rattle.row_writer.specs.Known.{Values, found, target, value_at, values_at, is_at, text_known, blob_known, cell_known, row_known, all_known, rows_seen}
use Rattle.row_writer.specs.Tight.{Has, Tight}
use Rattle.row_writer.proofs.CellLaws.{is_index}
use Rattle.winmd_writer.specs.Finished.{ImageOf, StrictFor, all_in_order}
use Rattle.winmd_writer.specs.Sorted.{number_in, all_sorted}
use Rattle.winmd_writer.proofs.SortLaws.{sorted_mapped, sorted_passes}
use Rattle.winmd_writer.proofs.TightLaws.{tight_by}

abbrev pub placed_in : Heap → Placed
placed_in heap = record { bytes = heap.bytes; index = λ content. unwrap_or (index_of heap content) 0 }

abbrev pub heaped : Heap → Heap → Heaped
heaped texts blobs = record { texts = placed_in texts; blobs = placed_in blobs }

place_is : (heap : Heap) (content : List ℕ) (n : ℕ) → is_at (index_of heap content) n ≡ true → unwrap_or (index_of heap content) 0 ≡ n
place_is heap content n h = ap (λ (o : Option ℕ). unwrap_or o 0) (is_index (index_of heap content) n h)

module _ (texts blobs : Heap) (each : EachStands BlobHere blobs) where
  text_cell : (n : ℕ) (r : Result (List ℕ) ImageFault) → text_at texts.bytes n ≡ r → text_known texts n r ≡ true
      → ((heaped texts blobs).texts.index (found r) ≡ n) × (text_at texts.bytes ((heaped texts blobs).texts.index (found r)) ≡ Ok (found r))
  text_cell n (Err fault) e h = absurd cc
  text_cell n (Ok text) e h = let p = place_is texts text n h in (p, ap (text_at texts.bytes) p ∙ e)

  blob_cell : (n : ℕ) (r : Result (List ℕ) ImageFault) → blob_at blobs.bytes n ≡ r → blob_known blobs n r ≡ true
      → ((heaped texts blobs).blobs.index (found r) ≡ n) × HoldsCell (heaped texts blobs) (values.Blob (found r))
  blob_cell n (Err fault) e h = absurd cc
  blob_cell n (Ok blob) e h =
      let both = and_parts (is_at (index_of blobs blob) n) (ltb (length blob) (2 ^ 29)) h in
      let p = place_is blobs blob n both.0 in
      (p, record { small = ltb-true _ _ both.1; stands = ap (λ (k : ℕ). part_at blobs.bytes k (length (blob_bytes blob))) p ∙ each blob n (is_index (index_of blobs blob) n both.0) })

  coded_cell : (c : CodedIndex) (n : ℕ) (o : Option (Table × ℕ)) → IfSome o (λ named. code_of (bits_of c) (choices_of c) named.0 named.1 ≡ Some n) → is_some o ≡ true
      → (number_in_cell (heaped texts blobs) (Coded c) (target o) ≡ n) × HoldsCell (heaped texts blobs) (target o)
  coded_cell c n None e h = absurd cc
  coded_cell c n (Some row) e h = (ap (λ (x : Option ℕ). unwrap_or x 0) e, tt)

  cell_stands : (column : Column) (n : ℕ) → cell_known texts blobs column n ≡ true
      → (number_in_cell (heaped texts blobs) column (value_at texts blobs column n) ≡ n) × HoldsCell (heaped texts blobs) (value_at texts blobs column n)
  cell_stands One n h = (refl, tt)
  cell_stands Two n h = (refl, tt)
  cell_stands Four n h = (refl, tt)
  cell_stands Texts n h = text_cell n (text_at texts.bytes n) refl h
  cell_stands Guids n h = (refl, tt)
  cell_stands Blobs n h = blob_cell n (blob_at blobs.bytes n) refl h
  cell_stands (Index t) n h = (refl, tt)
  cell_stands (Coded c) n h = coded_cell c n (target_of (bits_of c) (choices_of c) n) (decoded c n) h

  row_stands : (columns : List Column) (ns : List ℕ) → row_known texts blobs columns ns ≡ true
      → (numbers_in_row (heaped texts blobs) columns (values_at texts blobs columns ns) ≡ ns) × AllByRecursion (HoldsCell (heaped texts blobs)) (values_at texts blobs columns ns)
  row_stands [] [] h = (refl, tt)
  row_stands [] (n ∷ ns) h = absurd cc
  row_stands (c ∷ cs) [] h = absurd cc
  row_stands (c ∷ cs) (n ∷ ns) h =
      let both = and_parts (cell_known texts blobs c n) (row_known texts blobs cs ns) h in
      let one = cell_stands c n both.0 in
      let rest = row_stands cs ns both.1 in
      ((λ i. one.0 i ∷ rest.0 i), (one.1, rest.1))

  rows_stand : (columns : List Column) (rows : List (List ℕ)) → list_all (row_known texts blobs columns) rows ≡ true
      → (map (numbers_in_row (heaped texts blobs) columns) (map (values_at texts blobs columns) rows) ≡ rows) × AllByRecursion (AllByRecursion (HoldsCell (heaped texts blobs))) (map (values_at texts blobs columns) rows)
  rows_stand columns [] h = (refl, tt)
  rows_stand columns (row ∷ rows) h =
      let both = and_parts (row_known texts blobs columns row) (list_all (row_known texts blobs columns) rows) h in
      let one = row_stands columns row both.0 in
      let rest = rows_stand columns rows both.1 in
      ((λ i. one.0 i ∷ rest.0 i), (one.1, rest.1))

  -- ---- two tables are sorted

  coded_key : (c : CodedIndex) (n : ℕ) (o : Option (Table × ℕ)) → IfSome o (λ named. code_of (bits_of c) (choices_of c) named.0 named.1 ≡ Some n) → is_some o ≡ true → code_of_cell c (target o) ≡ n
  coded_key c n None e h = absurd cc
  coded_key c n (Some row) e h = ap (λ (x : Option ℕ). unwrap_or x 0) e

  attribute_key : (row : List ℕ) → row_known texts blobs (columns_of tables.CustomAttribute) row ≡ true
      → code_of_cell coded.HasCustomAttribute (get_or (values_at texts blobs (columns_of tables.CustomAttribute) row) 0 (values.Number 0)) ≡ number_in 0 row
  attribute_key [] h = absurd cc
  attribute_key (n ∷ ns) h =
      let both = and_parts (cell_known texts blobs (Coded coded.HasCustomAttribute) n) _ h in
      coded_key coded.HasCustomAttribute n (target_of (bits_of coded.HasCustomAttribute) (choices_of coded.HasCustomAttribute) n) (decoded coded.HasCustomAttribute n) both.0

  semantics_key : (row : List ℕ) → row_known texts blobs (columns_of tables.MethodSemantics) row ≡ true
      → code_of_cell coded.HasSemantics (get_or (values_at texts blobs (columns_of tables.MethodSemantics) row) 2 (values.Number 0)) ≡ number_in 2 row
  semantics_key [] h = absurd cc
  semantics_key (a ∷ []) h = absurd cc
  semantics_key (a ∷ b ∷ []) h = absurd cc
  semantics_key (a ∷ b ∷ n ∷ ns) h =
      let both = and_parts (cell_known texts blobs (Coded coded.HasSemantics) n) _ h in
      coded_key coded.HasSemantics n (target_of (bits_of coded.HasSemantics) (choices_of coded.HasSemantics) n) (decoded coded.HasSemantics n) both.0

  module _ (raws : Table → List (List ℕ)) (known : (t : Table) → all_known texts blobs raws t ≡ true) where
    sorted_known : (t : Table) → all_known texts blobs (all_sorted raws) t ≡ true
    sorted_known tables.CustomAttribute = sorted_passes (number_in 0) (row_known texts blobs (columns_of tables.CustomAttribute)) (raws tables.CustomAttribute) (known tables.CustomAttribute)
    sorted_known tables.MethodSemantics = sorted_passes (number_in 2) (row_known texts blobs (columns_of tables.MethodSemantics)) (raws tables.MethodSemantics) (known tables.MethodSemantics)
    sorted_known t = known t

    seen_at : (t : Table) → rows_seen texts blobs (all_sorted raws) t ≡ all_in_order (rows_seen texts blobs raws) t
    seen_at tables.CustomAttribute =
        sorted_mapped (number_in 0) (λ row. code_of_cell coded.HasCustomAttribute (get_or row 0 (values.Number 0))) (values_at texts blobs (columns_of tables.CustomAttribute))
        (row_known texts blobs (columns_of tables.CustomAttribute)) attribute_key (raws tables.CustomAttribute) (known tables.CustomAttribute)
    seen_at tables.MethodSemantics =
        sorted_mapped (number_in 2) (λ row. code_of_cell coded.HasSemantics (get_or row 2 (values.Number 0))) (values_at texts blobs (columns_of tables.MethodSemantics))
        (row_known texts blobs (columns_of tables.MethodSemantics)) semantics_key (raws tables.MethodSemantics) (known tables.MethodSemantics)
    seen_at t = refl

    -- the image of known rows that say, put in order, what declarations are written as is strict for these
    pub strict_by : (bytes : List ℕ) → EachStands TextAt texts → index_of texts [] ≡ Some 0 → index_of blobs [] ≡ Some 0
        → ∥ Tight text_bytes (λ content. Has (rows_seen texts blobs raws) (values.Text content)) texts ∥₁ → ∥ Tight blob_bytes (λ content. Has (rows_seen texts blobs raws) (values.Blob content)) blobs ∥₁ → ImageOf texts.bytes blobs.bytes (all_sorted raws) bytes
        → (declared : List DeclTree) → Rising name_of declared → all_in_order (rows_seen texts blobs raws) ≡ rows_of declared → StrictFor declared bytes
    strict_by bytes standing text blob tight_texts tight_blobs image declared ordered seen =
        let heaps : Heaped = heaped texts blobs in
        let sorted : Table → List (List ℕ) = all_sorted raws in
        let is : rows_seen texts blobs sorted ≡ rows_of declared = (λ i. λ t. seen_at t i) ∙ seen in
        let again : numbers_of heaps (rows_of declared) ≡ sorted = ap (λ (rows : Values). numbers_of heaps rows) (sym is) ∙ (λ i. λ t. (rows_stand (columns_of t) (sorted t) (sorted_known t)).0 i) in
        record {
          strict = record {
            declared = declared;
            ordered = ordered;
            heaps = heaps;
            holds = record {
              texts = (standing [] 0 text).whole;
              blobs = each [] 0 blob;
              cells = subst (λ (rows : Values). (t : Table) → AllByRecursion (AllByRecursion (HoldsCell heaps)) (rows t)) is (λ t. (rows_stand (columns_of t) (sorted t) (sorted_known t)).1);
            };
            spelled = image.spelled ∙ ap (λ (r : Table → List (List ℕ)). image_bytes (parts_with texts.bytes blobs.bytes r)) (sym again);
            columns = subst (λ (r : Table → List (List ℕ)). Fit (sizes_of_rows texts.bytes blobs.bytes r) r) (sym again) image.columns;
            small = subst (λ (r : Table → List (List ℕ)). Small (parts_with texts.bytes blobs.bytes r)) (sym again) image.small;
          };
          states = refl;
          texts = ∥∥₁_map tight_texts (tight_by text_bytes (λ content. values.Text content) texts (rows_seen texts blobs raws) (rows_of declared) seen);
          blobs = ∥∥₁_map tight_blobs (tight_by blob_bytes (λ content. values.Blob content) blobs (rows_seen texts blobs raws) (rows_of declared) seen);
        }

pub if_ok : {T E : Type 0} (r : Result T E) (P Q : T → Type 0) → ((x : T) → P x → Q x) → IfOk r P → IfOk r Q
if_ok (Ok x) P Q f h = f x h
if_ok (Err e) P Q f h = tt

pub on_ok : {T E : Type 0} (r : Result T E) (P Q : Type 0) → (P → Q) → OnOk r P → OnOk r Q
on_ok (Ok x) P Q f h = f h
on_ok (Err e) P Q f h = tt

-- What stands in a column of texts is UTF-8.
use Rattle.std.proofs.Common.{◌≡◌, ◌-◌, ℕ, Bool, true, false, cond, List, [], length, drop, nat_lt, Option, Some, None, Result, Ok, Err, slice_get, refl, subst}
use Rattle.std.specs.Str.{IsUtf8, is_utf8}
use Rattle.std.proofs.lemmas.Str.{IsUtf8-from_is_utf8, IsUtf8-nil, is_utf8-from_IsUtf8}
use Rattle.md_heaps.specs.Faults.{past_heap, HeapText}
use Rattle.md_schema.specs.Faults.{fault_at}
use Rattle.md_heaps.specs.Reading.{text_at, ended, until_zero}
use Rattle.md_schema.specs.declared.column.Column.TheVariants.{Texts}
use Rattle.md_schema.specs.declared.faults.ImageFault.{ImageFault}
use Rattle.md_schema.specs.declared.table.Table.{Table}
use Rattle.md_schema.specs.Schema.{columns_of}
use Rattle.winmd_rows.specs.Faults.{Fault, ◌>>=◌}
use Rattle.winmd_rows.specs.Values.{Cell, Heaps, placed, text_value}
use Rattle.winmd_lines.specs.Cells.{as_bytes, bytes_in}
use Rattle.winmd_cells.proofs.CellLaws.{cell_seen}
use Rattle.winmd_cells.specs.declared.image.Image.{Image}
use Rattle.winmd_cells.specs.Seen.{followed_cell, heaps_in, offsets_in, number_seen, row_seen}

-- the bytes that a cell says
abbrev said : Cell → Result (List ℕ) Fault
said cell = cell >>= λ value. Ok (as_bytes value)

whole_text : (text bytes : List ℕ) (at : ℕ) (b : Bool) → is_utf8 text ≡ b → cond b (Ok text) (Err (fault_at HeapText at)) ≡ Ok bytes → is_utf8 bytes ≡ true
whole_text text bytes at true e h = let same : text ≡ bytes = cc in subst (λ (x : List ℕ). is_utf8 x ≡ true) same e
whole_text text bytes at false e h = absurd cc

ended_text : (found : Option (List ℕ)) (bytes : List ℕ) (at : ℕ) → ended at found ≡ Ok bytes → is_utf8 bytes ≡ true
ended_text None bytes at h = absurd cc
ended_text (Some text) bytes at h = whole_text text bytes at (is_utf8 text) refl h

within : (heap bytes : List ℕ) (at : ℕ) (b : Bool) → cond b (ended at (until_zero (drop at heap))) (Err past_heap) ≡ Ok bytes → is_utf8 bytes ≡ true
within heap bytes at true h = ended_text (until_zero (drop at heap)) bytes at h
within heap bytes at false h = absurd cc

stood : (found : Result (List ℕ) ImageFault) (offset : ℕ) (bytes : List ℕ) → ((text : List ℕ) → found ≡ Ok text → is_utf8 text ≡ true) → said (placed offset (text_value found)) ≡ Ok bytes → is_utf8 bytes ≡ true
stood (Ok text) offset bytes texts h = let same : text ≡ bytes = cc in subst (λ (x : List ℕ). is_utf8 x ≡ true) same (texts text refl)
stood (Err e) offset bytes texts h = absurd cc

cell_text : (heaps : Heaps) (offset : ℕ) (raw : Option ℕ) (bytes : List ℕ) → said (followed_cell heaps offset (Some Texts) raw) ≡ Ok bytes → is_utf8 bytes ≡ true
cell_text heaps offset None bytes h = let same : [] ≡ bytes = cc in subst (λ (x : List ℕ). is_utf8 x ≡ true) same (is_utf8-from_IsUtf8 [] IsUtf8-nil)
cell_text heaps offset (Some n) bytes h = stood (text_at heaps.texts n) offset bytes (λ text e. within heaps.texts text n (nat_lt n (length heaps.texts)) e) h

pub text_utf8 : (image : Image) (table : Table) (n column : ℕ) (bytes : List ℕ) → slice_get (columns_of table) column ≡ Some Texts → bytes_in (row_seen image table n) column ≡ Ok bytes → IsUtf8 bytes
text_utf8 image table n column bytes texts h =
    IsUtf8-from_is_utf8 bytes
    (cell_text (heaps_in image) (offsets_in image table (n - 1) column) (number_seen image table n column) bytes (rw (cell_seen image table n column, texts) at h))

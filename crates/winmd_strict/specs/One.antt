-- An image of one struct, whose texts and blobs stand at indices of its own choice.
use Rattle.std.specs.Prelude.{ℕ, ◌+◌, List, [], ◌∷◌, codes, length, bytes_eq, if◌then◌else◌}
use Rattle.std.specs.List.{flat_map}
use Rattle.md_heaps.specs.Blobs.{blob_bytes}
use Rattle.md_heaps.specs.Texts.{text_bytes}
use Rattle.md_schema.specs.declared.sizes.Sizes.{Sizes}
use Rattle.md_schema.specs.declared.table.Table.{Table}
use Rattle.winmd_image.specs.Parts.{Parts}
use Rattle.winmd_image.specs.Spelled.{image_bytes}
use Rattle.winmd_sets.specs.Rows.{rows_of}
use Rattle.winmd_strict.specs.Placed.{Placed, Heaped, numbers_of, parts_with, sizes_of_rows}
use Rattle.winmd_strict.specs.Wrong.{one}

-- each entry behind the one before it
abbrev pub index_among : (List ℕ → List ℕ) → ℕ → List (List ℕ) → List ℕ → ℕ
index_among entry at [] item = 0
index_among entry at (e ∷ entries) item = if bytes_eq item e then at else index_among entry (at + length (entry e)) entries item

abbrev pub placed_by : (List ℕ → List ℕ) → List (List ℕ) → Placed
placed_by entry entries = record { bytes = flat_map entry entries; index = index_among entry 0 entries }

abbrev pub one_texts : List (List ℕ)
one_texts =
    [] ∷ codes "types.winmd" ∷ codes "ValueType" ∷ codes "System" ∷ codes "VersionAttribute" ∷ codes "Windows.Foundation.Metadata" ∷ codes "<Module>"
    ∷ codes "B" ∷ codes "A" ∷ codes "X" ∷ codes ".ctor" ∷ codes "types" ∷ codes "mscorlib" ∷ codes "Windows.Foundation.FoundationContract" ∷ []

-- the signature of the field, that of the constructor, the value of the attribute, and the token of `mscorlib`
abbrev pub one_blobs : List (List ℕ)
one_blobs =
    [] ∷ (0x06 ∷ 0x08 ∷ []) ∷ (0x20 ∷ 1 ∷ 0x01 ∷ 0x09 ∷ []) ∷ (1 ∷ 0 ∷ 1 ∷ 0 ∷ 0 ∷ 0 ∷ 0 ∷ 0 ∷ []) ∷ (0xB7 ∷ 0x7A ∷ 0x5C ∷ 0x56 ∷ 0x19 ∷ 0x34 ∷ 0xE0 ∷ 0x89 ∷ []) ∷ []

abbrev pub one_heaps : Heaped
one_heaps = record { texts = placed_by text_bytes one_texts; blobs = placed_by blob_bytes one_blobs }

abbrev pub one_numbers : Table → List (List ℕ)
one_numbers = numbers_of one_heaps (rows_of one)

abbrev pub one_sizes : Sizes
one_sizes = sizes_of_rows one_heaps.texts.bytes one_heaps.blobs.bytes one_numbers

abbrev pub one_parts : Parts
one_parts = parts_with one_heaps.texts.bytes one_heaps.blobs.bytes one_numbers

abbrev pub one_image : List ℕ
one_image = image_bytes one_parts

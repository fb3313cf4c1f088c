-- Images that state one enum, and whose parts stand at other places than those of the images that are written.
use Rattle.std.specs.Prelude.{ℕ, ◌+◌, ◌-◌, false, List, [], ◌∷◌, ◌++◌, codes}
use Rattle.md_bytes.specs.Padding.{zeros}
use Rattle.wr_base.specs.Trees.{DeclTree, enum}
use Rattle.winmd_examples.specs.File.{dos, file_header, optional_32, optional_64, section, cli, root, tables_header, texts_header, users_header, guids_header, blobs_header}
use Rattle.winmd_examples.specs.Size.{cases, tables, tables_with, tables_head, type_rows, field_rows, value_rows, assembly_rows, texts, users, guids, blobs}

-- The metadata whose `#~` has so many bytes: 360 bytes more.
abbrev pub metadata_around : ℕ → List ℕ → List ℕ
metadata_around size bytes =
    root 5 ++ tables_header 116 size ++ texts_header (116 + size) 176 ++ users_header (292 + size) 4 ++ guids_header (296 + size) 16 ++ blobs_header (312 + size) 48
    ++ bytes ++ texts ++ users ++ guids ++ blobs

-- The file with so many bytes of metadata behind the CLI header, in its one section.
abbrev pub file_around : ℕ → List ℕ → List ℕ
file_around size bytes = dos ++ file_header 1 224 ++ optional_32 ++ section (72 + size) 0x2000 0x400 0x200 ++ zeros 96 ++ cli 0x2048 size ++ bytes ++ zeros (952 - size)

-- ---- headers of the file

abbrev pub metadata : List ℕ
metadata = metadata_around 228 tables

-- the image as it is written
abbrev pub one_section : List ℕ
one_section = file_around 588 metadata

-- addresses of eight bytes: the optional header is longer, and directory 14 stands 16 bytes later
abbrev pub long_addresses : List ℕ
long_addresses = dos ++ file_header 1 240 ++ optional_64 ++ section 660 0x2000 0x400 0x200 ++ zeros 80 ++ cli 0x2048 588 ++ metadata ++ zeros 364

-- two sections: the CLI header stands in the first, and the metadata in the second
abbrev pub two_sections : List ℕ
two_sections =
    dos ++ file_header 2 224 ++ optional_32 ++ section 72 0x2000 0x200 0x200 ++ section 588 0x4000 0x400 0x400 ++ zeros 56
    ++ cli 0x4000 588 ++ zeros 440 ++ metadata ++ zeros 436

-- ---- streams

-- four streams in another order, without `#US`
abbrev pub another_order : List ℕ
another_order =
    file_around 572 (root 4 ++ blobs_header 104 48 ++ guids_header 152 16 ++ texts_header 168 176 ++ tables_header 344 228 ++ blobs ++ guids ++ texts ++ tables)

-- ---- indices of four bytes: into `#Strings`, `#GUID`, `#Blob`, and into all three

abbrev pub long_texts : List ℕ
long_texts = file_around 628 (metadata_around 268 (tables_with 1 4 2 2 ++ 0 ∷ 0 ∷ []))

abbrev pub long_guids : List ℕ
long_guids = file_around 592 (metadata_around 232 (tables_with 2 2 4 2))

abbrev pub long_blobs : List ℕ
long_blobs = file_around 616 (metadata_around 256 (tables_with 4 2 2 4 ++ 0 ∷ 0 ∷ []))

abbrev pub all_long : List ℕ
all_long = file_around 660 (metadata_around 300 (tables_with 7 4 4 4))

-- ---- blobs whose length is written in two and in four bytes: the value of the attribute, at the index 48, says version 7

abbrev pub size_7 : DeclTree
size_7 = enum (codes "Shop.Size") 7 false cases

-- `#~` with the attribute's value there, and the file around it and so many bytes more of `#Blob`
abbrev pub moved_tables : List ℕ
moved_tables = tables_head 0 ++ type_rows 2 2 ++ field_rows 2 2 ++ value_rows 2 2 48 ++ assembly_rows 2 2 ++ 0 ∷ 0 ∷ []

abbrev pub metadata_with : ℕ → List ℕ → List ℕ
metadata_with more bytes =
    root 5 ++ tables_header 116 228 ++ texts_header 344 176 ++ users_header 520 4 ++ guids_header 524 16 ++ blobs_header 540 (48 + more)
    ++ moved_tables ++ texts ++ users ++ guids ++ blobs ++ bytes

abbrev pub seven : List ℕ
seven = 1 ∷ 0 ∷ 7 ∷ 0 ∷ 0 ∷ 0 ∷ 0 ∷ 0 ∷ []

abbrev pub length_of_two : List ℕ
length_of_two = file_around 600 (metadata_with 12 (0x80 ∷ 8 ∷ seven ++ 0 ∷ 0 ∷ []))

abbrev pub length_of_four : List ℕ
length_of_four = file_around 600 (metadata_with 12 (0xC0 ∷ 0 ∷ 0 ∷ 8 ∷ seven))

-- 16,384 bytes, the least length that has no shorter form; what stands behind the eight is passed over
abbrev pub long_value : List ℕ
long_value =
    dos ++ file_header 1 224 ++ optional_32 ++ section 17048 0x2000 0x4400 0x200 ++ zeros 96 ++ cli 0x2048 16976
    ++ metadata_with 16388 (0xC0 ∷ 0 ∷ 0x40 ∷ 0 ∷ seven ++ zeros 16376) ++ zeros 360

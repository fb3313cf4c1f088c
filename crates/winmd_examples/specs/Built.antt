-- Images with other tables than those of the enum: `#~` stands behind its metadata, at 0x494, and behind it `#Strings` and `#Blob` of the enum's
-- image, each with further bytes behind its own, from the indices 0xB0 and 0x30 on.
use Rattle.std.specs.Prelude.{ℕ, zero, suc, ◌+◌, ◌^◌, false, List, [], ◌∷◌, ◌++◌, codes, length, map, Result}
use Rattle.std.specs.List.{flat_map}
use Rattle.md_bytes.specs.Bytes.{le, total}
use Rattle.md_bytes.specs.Padding.{zeros, words}
use Rattle.wr_base.specs.Trees.{DeclTree, enum}
use Rattle.winmd_rows.specs.Faults.{Fault}
use Rattle.winmd_examples.specs.File.{dos, file_header, optional_32, section, cli, root, tables_header, texts_header, users_header, guids_header, blobs_header, ended}
use Rattle.winmd_examples.specs.Size as size

-- ---- rows; numbers of four bytes are two of two here

abbrev pub enum_ref : List ℕ
enum_ref = words 2 (6 ∷ 13 ∷ 18 ∷ [])

abbrev pub version_ref : List ℕ
version_ref = words 2 (10 ∷ 25 ∷ 42 ∷ [])

-- flags, name, namespace, what it extends, the first field and the first method
abbrev pub a_type : ℕ → ℕ → ℕ → ℕ → ℕ → ℕ → List ℕ
a_type flags name space base field method = words 2 (flags ∷ 0 ∷ name ∷ space ∷ base ∷ field ∷ method ∷ [])

-- `<Module>`, which stands at 70
abbrev pub module_row : List ℕ
module_row = a_type 0 70 0 0 1 1

-- `value__` of I4, and a case whose name stands at an index
abbrev pub value_field : List ℕ
value_field = words 2 (0x0601 ∷ 89 ∷ 1 ∷ [])

abbrev pub a_case : ℕ → List ℕ
a_case name = words 2 (0x8056 ∷ name ∷ 4 ∷ [])

-- the constant 0 of a row of Field
abbrev pub zero_of : ℕ → List ℕ
zero_of field = words 2 (8 ∷ (field + field + field + field) ∷ 13 ∷ [])

-- the first parameter
abbrev pub a_method : ℕ → List ℕ
a_method param = words 2 (0 ∷ 0 ∷ 0 ∷ 0 ∷ 0 ∷ 0 ∷ param ∷ [])

abbrev pub a_param : List ℕ
a_param = words 2 (0 ∷ 1 ∷ 0 ∷ [])

-- the class of a constructor
abbrev pub a_maker : ℕ → List ℕ
a_maker class_ = words 2 (class_ ∷ 116 ∷ 8 ∷ [])

-- parent, constructor and value
abbrev pub attribute : ℕ → ℕ → ℕ → List ℕ
attribute parent maker value = words 2 (parent ∷ maker ∷ value ∷ [])

-- a type and the first of its events or properties
abbrev pub a_map : ℕ → ℕ → List ℕ
a_map type_ first = words 2 (type_ ∷ first ∷ [])

abbrev pub event_row : List ℕ
event_row = words 2 (0 ∷ 79 ∷ 0 ∷ [])

abbrev pub property_row : List ℕ
property_row = words 2 (0 ∷ 79 ∷ 1 ∷ [])

-- a type, and the one around it
abbrev pub nested : ℕ → ℕ → List ℕ
nested inner outer = words 2 (inner ∷ outer ∷ [])

-- the number of a generic parameter, and its owner
abbrev pub generic : ℕ → ℕ → List ℕ
generic number owner = words 2 (number ∷ 0 ∷ owner ∷ 0 ∷ [])

-- ---- tables: their number and their rows

abbrev pub Filled : Type 0
Filled = ℕ × List (List ℕ)

abbrev pub refs : List (List ℕ) → Filled
refs rows = (1, rows)

abbrev pub types : List (List ℕ) → Filled
types rows = (2, rows)

abbrev pub fields : List (List ℕ) → Filled
fields rows = (4, rows)

abbrev pub methods : List (List ℕ) → Filled
methods rows = (6, rows)

abbrev pub params : List (List ℕ) → Filled
params rows = (8, rows)

abbrev pub makers : List (List ℕ) → Filled
makers rows = (0x0A, rows)

abbrev pub constants : List (List ℕ) → Filled
constants rows = (0x0B, rows)

abbrev pub attributes : List (List ℕ) → Filled
attributes rows = (0x0C, rows)

abbrev pub event_maps : List (List ℕ) → Filled
event_maps rows = (0x12, rows)

abbrev pub events : List (List ℕ) → Filled
events rows = (0x14, rows)

abbrev pub property_maps : List (List ℕ) → Filled
property_maps rows = (0x15, rows)

abbrev pub properties : List (List ℕ) → Filled
properties rows = (0x17, rows)

abbrev pub nesteds : List (List ℕ) → Filled
nesteds rows = (0x29, rows)

abbrev pub generics : List (List ℕ) → Filled
generics rows = (0x2A, rows)

-- The stream: a bit of Valid for each table, then the numbers of their rows, then the rows.
abbrev pub stream : List Filled → List ℕ
stream tables =
    zeros 4 ++ 2 ∷ 0 ∷ 0 ∷ 1 ∷ le 8 (total (map (λ t. 2 ^ t.0) tables)) ++ zeros 8 ++ words 4 (map (λ t. length t.1) tables) ++ flat_map (λ t. flat_map (λ row. row) t.1) tables

-- ---- the image

-- The file with so many bytes of metadata; `#US` and `#GUID` stand where they do in the enum's image, whose streams come first.
abbrev pub around : ℕ → ℕ → ℕ → List ℕ → List ℕ
around tables texts blobs bytes =
    dos ++ file_header 1 224 ++ optional_32 ++ section 660 0x2000 (660 + tables + texts + blobs) 0x200 ++ zeros 96 ++ cli 0x2048 (588 + tables + texts + blobs)
    ++ root 5 ++ tables_header 588 tables ++ texts_header (588 + tables) texts ++ users_header 520 4 ++ guids_header 524 16 ++ blobs_header (588 + tables + texts) blobs
    ++ size.tables ++ size.texts ++ size.users ++ size.guids ++ size.blobs ++ bytes

abbrev pub built_of : List ℕ → List ℕ → List ℕ → List ℕ
built_of tables texts blobs = around (length tables) (length texts) (length blobs) (tables ++ texts ++ blobs)

abbrev pub built : List Filled → List ℕ → List ℕ → List ℕ
built tables texts blobs = built_of (stream tables) (size.texts ++ texts) (size.blobs ++ blobs)

-- tables, and what their image states
abbrev pub Built : Type 0
Built = List Filled × Result (List DeclTree) Fault

abbrev pub wanted : Built → Result (List DeclTree) Fault
wanted b = b.1

-- ---- what most of them have besides

-- `A`, `A.B`, `B.C` and `C` stand at 0xB0, 0xB2, 0xB6 and 0xBA
abbrev pub further_texts : List ℕ
further_texts = ended (codes "A" ∷ codes "A.B" ∷ codes "B.C" ∷ codes "C" ∷ [])

-- version 7 stands at 0x30
abbrev pub further_blobs : List ℕ
further_blobs = 8 ∷ 1 ∷ 0 ∷ 7 ∷ 0 ∷ 0 ∷ 0 ∷ 0 ∷ 0 ∷ []

-- an enum without cases
abbrev pub an_enum : List ℕ → ℕ → DeclTree
an_enum name version = enum name version false []

-- one letter, so often
unfoldable pub letters : ℕ → ℕ → List ℕ
letters letter zero = []
letters letter (suc n) = letter ∷ letters letter n

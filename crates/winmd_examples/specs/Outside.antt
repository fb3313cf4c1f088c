-- Enums in the namespaces whose names are always those of TypeRefs, and their images, laid out by hand: the type of a case is named by a TypeRef,
-- though the image declares it (ECMA-335 II.22.38, II.23.2.8).
use Rattle.std.specs.Prelude.{ℕ, ◌+◌, false, List, [], ◌∷◌, ◌++◌, codes, pos}
use Rattle.md_bytes.specs.Bytes.{le}
use Rattle.md_bytes.specs.Padding.{zeros, words}
use Rattle.wr_base.specs.Trees.{DeclTree, enum}
use Rattle.winmd_sets.specs.Shop.{case_of}
use Rattle.winmd_examples.specs.File.{root, tables_header, texts_header, users_header, guids_header, blobs_header, ended}
use Rattle.winmd_examples.specs.Layouts.{file_around}
use Rattle.winmd_examples.specs.Size.{token, users, guids}

-- an enum with the one case `a`
abbrev pub enum_named : List ℕ → DeclTree
enum_named name = enum name 1 false (case_of (codes "a") (pos 0) ∷ [])

-- ---- what their images share

-- `#Blob`, 36 bytes: the signature of a case with this token stands at 4, that of the constructor at 8, the case's value at 13, that of the
-- attribute at 18, and the token of `mscorlib` at 27.
abbrev pub blobs_with : ℕ → List ℕ
blobs_with type_ =
    0 ∷ 2 ∷ 0x06 ∷ 0x08 ∷ 3 ∷ 0x06 ∷ 0x11 ∷ type_ ∷ 4 ∷ 0x20 ∷ 1 ∷ 0x01 ∷ 0x09 ∷ 4 ∷ 0 ∷ 0 ∷ 0 ∷ 0 ∷ 8 ∷ 1 ∷ 0 ∷ 1 ∷ 0 ∷ 0 ∷ 0 ∷ 0 ∷ 0 ∷ token

-- `#~`, with so many rows of TypeRef; the tables are 0, 1, 2, 4, 0xA, 0xB, 0xC, 0x20 and 0x23
abbrev pub head_with : ℕ → List ℕ
head_with refs = zeros 4 ++ 2 ∷ 0 ∷ 0 ∷ 1 ∷ words 4 (0x1C17 ∷ 9 ∷ 0x3301FA00 ∷ 0x1600 ∷ 1 ∷ refs ∷ 2 ∷ 2 ∷ 1 ∷ 1 ∷ 1 ∷ 1 ∷ 2 ∷ [])

-- `<Module>` and the enum: its name, its namespace, what it extends
abbrev pub type_rows : ℕ → ℕ → ℕ → ℕ → List ℕ
type_rows module_ name space base =
    le 4 0 ++ words 2 (module_ ∷ 0 ∷ 0 ∷ 1 ∷ 1 ∷ []) ++ le 4 0x4101 ++ words 2 (name ∷ space ∷ base ∷ 1 ∷ 1 ∷ [])

-- Field, MemberRef with the class of the constructor, Constant, CustomAttribute; `value__`, `a` and `.ctor` stand behind each other
abbrev pub part_rows : ℕ → ℕ → List ℕ
part_rows text class_ =
    words 2 (0x0601 ∷ text ∷ 1 ∷ 0x8056 ∷ (8 + text) ∷ 4 ∷ class_ ∷ (10 + text) ∷ 8 ∷ 8 ∷ 8 ∷ 13 ∷ 67 ∷ 11 ∷ 18 ∷ [])

-- Assembly and AssemblyRef; `types`, `mscorlib` and the contract stand behind each other
abbrev pub assembly_rows : ℕ → List ℕ
assembly_rows text =
    le 4 0x8004 ++ words 2 (255 ∷ 255 ∷ 255 ∷ 255 ∷ []) ++ le 4 0x200 ++ words 2 (0 ∷ text ∷ 0 ∷ [])
    ++ words 2 (255 ∷ 255 ∷ 255 ∷ 255 ∷ []) ++ le 4 0 ++ words 2 (27 ∷ (6 + text) ∷ 0 ∷ 0 ∷ [])
    ++ words 2 (255 ∷ 255 ∷ 255 ∷ 255 ∷ []) ++ le 4 0x200 ++ words 2 (0 ∷ (15 + text) ∷ 0 ∷ 0 ∷ [])

abbrev pub last_texts : List (List ℕ)
last_texts =
    codes "<Module>" ∷ codes "value__" ∷ codes "a" ∷ codes ".ctor" ∷ codes "types" ∷ codes "mscorlib" ∷ codes "Windows.Foundation.FoundationContract" ∷ []

-- the image of streams of so many bytes
abbrev pub image_around : ℕ → List ℕ → ℕ → List ℕ → List ℕ → List ℕ
image_around size tables text_size texts blobs =
    file_around (172 + size + text_size) (root 5 ++ tables_header 116 size ++ texts_header (116 + size) text_size ++ users_header (116 + size + text_size) 4
    ++ guids_header (120 + size + text_size) 16 ++ blobs_header (136 + size + text_size) 36 ++ tables ++ texts ++ users ++ guids ++ blobs)

-- ---- namespace System { enum E { a }; }

-- Three TypeRefs in the order of full names: System.E, System.Enum and VersionAttribute. `E` and `System` stand at 13 and 15, `Enum` at 22,
-- `VersionAttribute` and its namespace at 27 and 44, and `<Module>` at 72. The case is of TypeRef 1: its token is 5.
abbrev pub system_tables : List ℕ
system_tables =
    head_with 3 ++ words 2 (0 ∷ 1 ∷ 1 ∷ 0 ∷ 0 ∷ 6 ∷ 13 ∷ 15 ∷ 6 ∷ 22 ∷ 15 ∷ 10 ∷ 27 ∷ 44 ∷ []) ++ type_rows 72 13 15 9 ++ part_rows 81 25 ++ assembly_rows 97

abbrev pub system_texts : List ℕ
system_texts =
    0 ∷ ended (codes "types.winmd" ∷ codes "E" ∷ codes "System" ∷ codes "Enum" ∷ codes "VersionAttribute" ∷ codes "Windows.Foundation.Metadata" ∷ last_texts)
    ++ 0 ∷ 0 ∷ []

abbrev pub system_image : List ℕ
system_image = image_around 208 system_tables 152 system_texts (blobs_with 5)

-- ---- namespace System { enum Enum { a }; }

-- It extends itself by the TypeRef that is there, and its case is of that: token 5. `Enum` and `System` stand at 13 and 18, `VersionAttribute` and its
-- namespace at 25 and 42, and `<Module>` at 70.
abbrev pub enum_tables : List ℕ
enum_tables =
    head_with 2 ++ words 2 (0 ∷ 1 ∷ 1 ∷ 0 ∷ 0 ∷ 6 ∷ 13 ∷ 18 ∷ 10 ∷ 25 ∷ 42 ∷ []) ++ type_rows 70 13 18 5 ++ part_rows 79 17 ++ assembly_rows 95 ++ 0 ∷ 0 ∷ []

abbrev pub enum_texts : List ℕ
enum_texts = 0 ∷ ended (codes "types.winmd" ∷ codes "Enum" ∷ codes "System" ∷ codes "VersionAttribute" ∷ codes "Windows.Foundation.Metadata" ∷ last_texts)

abbrev pub enum_image : List ℕ
enum_image = image_around 204 enum_tables 148 enum_texts (blobs_with 5)

-- ---- namespace Windows.Foundation.Metadata { enum E { a }; }

-- Three TypeRefs: System.Enum, the enum of the second assembly, VersionAttribute. `Enum` and `System` stand at 13 and 18, `E` and its namespace at
-- 25 and 27, and `VersionAttribute` at 55. The case is of TypeRef 2: its token is 9.
abbrev pub metadata_tables : List ℕ
metadata_tables =
    head_with 3 ++ words 2 (0 ∷ 1 ∷ 1 ∷ 0 ∷ 0 ∷ 6 ∷ 13 ∷ 18 ∷ 10 ∷ 25 ∷ 27 ∷ 10 ∷ 55 ∷ 27 ∷ []) ++ type_rows 72 25 27 5 ++ part_rows 81 25 ++ assembly_rows 97

abbrev pub metadata_texts : List ℕ
metadata_texts =
    0 ∷ ended (codes "types.winmd" ∷ codes "Enum" ∷ codes "System" ∷ codes "E" ∷ codes "Windows.Foundation.Metadata" ∷ codes "VersionAttribute" ∷ last_texts)
    ++ 0 ∷ 0 ∷ []

abbrev pub metadata_image : List ℕ
metadata_image = image_around 208 metadata_tables 152 metadata_texts (blobs_with 9)

-- ---- namespace Windows.Foundation.Metadata { enum VersionAttribute { a }; }

-- The TypeRefs are those of other enums; the case is of the second: its token is 9.
abbrev pub version_tables : List ℕ
version_tables =
    head_with 2 ++ words 2 (0 ∷ 1 ∷ 1 ∷ 0 ∷ 0 ∷ 6 ∷ 13 ∷ 18 ∷ 10 ∷ 25 ∷ 42 ∷ []) ++ type_rows 70 25 42 5 ++ part_rows 79 17 ++ assembly_rows 95 ++ 0 ∷ 0 ∷ []

abbrev pub version_image : List ℕ
version_image = image_around 204 version_tables 148 enum_texts (blobs_with 9)

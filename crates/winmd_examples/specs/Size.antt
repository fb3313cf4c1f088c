-- One enum of three cases and the streams of its image, laid out by hand (ECMA-335 II.22, II.24.2).
use Rattle.std.specs.Prelude.{ℕ, false, List, [], ◌∷◌, ◌++◌, codes, pos}
use Rattle.md_bytes.specs.Bytes.{le}
use Rattle.md_bytes.specs.Padding.{zeros, words}
use Rattle.wr_base.specs.declared.declaration.Case.{Case}
use Rattle.wr_base.specs.Trees.{DeclTree, enum}
use Rattle.winmd_sets.specs.Shop.{case_of}
use Rattle.winmd_examples.specs.File.{ended}

-- namespace Shop { enum Size { Small, Medium = 5, Large }; }
abbrev pub cases : List Case
cases = case_of (codes "Small") (pos 0) ∷ case_of (codes "Medium") (pos 5) ∷ case_of (codes "Large") (pos 6) ∷ []

abbrev pub size : DeclTree
size = enum (codes "Shop.Size") 1 false cases

-- `#Strings`, 176 bytes: the texts stand at 1, 13, 18, 25, 42, 70, 79, 84, 89, 97, 103, 110, 116, 122, 128 and 137.
abbrev pub texts : List ℕ
texts =
    0 ∷ ended (codes "types.winmd" ∷ codes "Enum" ∷ codes "System" ∷ codes "VersionAttribute" ∷ codes "Windows.Foundation.Metadata" ∷ codes "<Module>"
    ∷ codes "Size" ∷ codes "Shop" ∷ codes "value__" ∷ codes "Small" ∷ codes "Medium" ∷ codes "Large" ∷ codes ".ctor" ∷ codes "types" ∷ codes "mscorlib"
    ∷ codes "Windows.Foundation.FoundationContract" ∷ []) ++ 0 ∷ []

-- `#Blob`, 48 bytes: the signatures of `value__`, of a case and of the attribute's constructor stand at 1, 4 and 8; the three values at 13, 18 and
-- 23; the attribute's value at 28; the token of `mscorlib` at 37.
abbrev pub signatures : List ℕ
signatures = 0 ∷ 2 ∷ 0x06 ∷ 0x08 ∷ 3 ∷ 0x06 ∷ 0x11 ∷ 8 ∷ 4 ∷ 0x20 ∷ 1 ∷ 0x01 ∷ 0x09 ∷ []

abbrev pub values : List ℕ
values = 4 ∷ 0 ∷ 0 ∷ 0 ∷ 0 ∷ 4 ∷ 5 ∷ 0 ∷ 0 ∷ 0 ∷ 4 ∷ 6 ∷ 0 ∷ 0 ∷ 0 ∷ 8 ∷ 1 ∷ 0 ∷ 1 ∷ 0 ∷ 0 ∷ 0 ∷ 0 ∷ 0 ∷ []

abbrev pub token : List ℕ
token = 8 ∷ 0xB7 ∷ 0x7A ∷ 0x5C ∷ 0x56 ∷ 0x19 ∷ 0x34 ∷ 0xE0 ∷ 0x89 ∷ []

abbrev pub blobs : List ℕ
blobs = signatures ++ values ++ token ++ 0 ∷ 0 ∷ []

-- `#US` and `#GUID`
abbrev pub users : List ℕ
users = zeros 4

abbrev pub guids : List ℕ
guids = zeros 16

-- ---- `#~`

-- The header with its heap bits: of the tables 0, 1, 2, 4, 0xA, 0xB, 0xC, 0x20 and 0x23 so many rows; 60 bytes.
abbrev pub tables_head : ℕ → List ℕ
tables_head bits = zeros 4 ++ 2 ∷ 0 ∷ bits ∷ 1 ∷ words 4 (0x1C17 ∷ 9 ∷ 0x3301FA00 ∷ 0x1600 ∷ 1 ∷ 2 ∷ 2 ∷ 4 ∷ 1 ∷ 3 ∷ 1 ∷ 1 ∷ 2 ∷ [])

-- The rows, whose indices into `#Strings`, `#GUID` and `#Blob` have t, g and b bytes: Module, TypeRef, TypeDef
abbrev pub type_rows : ℕ → ℕ → List ℕ
type_rows t g =
    le 2 0 ++ le t 1 ++ words g (1 ∷ 0 ∷ 0 ∷ [])
    ++ le 2 6 ++ words t (13 ∷ 18 ∷ []) ++ le 2 10 ++ words t (25 ∷ 42 ∷ [])
    ++ le 4 0 ++ words t (70 ∷ 0 ∷ []) ++ words 2 (0 ∷ 1 ∷ 1 ∷ []) ++ le 4 0x4101 ++ words t (79 ∷ 84 ∷ []) ++ words 2 (5 ∷ 1 ∷ 1 ∷ [])

-- Field
abbrev pub field_rows : ℕ → ℕ → List ℕ
field_rows t b =
    le 2 0x0601 ++ le t 89 ++ le b 1 ++ le 2 0x8056 ++ le t 97 ++ le b 4 ++ le 2 0x8056 ++ le t 103 ++ le b 4 ++ le 2 0x8056 ++ le t 110 ++ le b 4

-- MemberRef, Constant and CustomAttribute; the value of the attribute stands at v
abbrev pub value_rows : ℕ → ℕ → ℕ → List ℕ
value_rows t b v =
    le 2 17 ++ le t 116 ++ le b 8
    ++ words 2 (8 ∷ 8 ∷ []) ++ le b 13 ++ words 2 (8 ∷ 12 ∷ []) ++ le b 18 ++ words 2 (8 ∷ 16 ∷ []) ++ le b 23
    ++ words 2 (67 ∷ 11 ∷ []) ++ le b v

-- Assembly and AssemblyRef
abbrev pub assembly_rows : ℕ → ℕ → List ℕ
assembly_rows t b =
    le 4 0x8004 ++ words 2 (255 ∷ 255 ∷ 255 ∷ 255 ∷ []) ++ le 4 0x200 ++ le b 0 ++ words t (122 ∷ 0 ∷ [])
    ++ words 2 (255 ∷ 255 ∷ 255 ∷ 255 ∷ []) ++ le 4 0 ++ le b 37 ++ words t (128 ∷ 0 ∷ []) ++ le b 0
    ++ words 2 (255 ∷ 255 ∷ 255 ∷ 255 ∷ []) ++ le 4 0x200 ++ le b 0 ++ words t (137 ∷ 0 ∷ []) ++ le b 0

-- all of it, 226 bytes where each index has two
abbrev pub tables_with : ℕ → ℕ → ℕ → ℕ → List ℕ
tables_with bits t g b = tables_head bits ++ type_rows t g ++ field_rows t b ++ value_rows t b 28 ++ assembly_rows t b

-- with two zeros behind it, 228 bytes
abbrev pub tables : List ℕ
tables = tables_with 0 2 2 2 ++ 0 ∷ 0 ∷ []

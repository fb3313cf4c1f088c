-- The image of one enum with some of its bytes written over, and what it then states. Offsets and answers were worked out by hand from ECMA-335 II.22
-- to II.25; `image_cases` tries the reader on the same.
use Rattle.std.specs.Prelude.{List, [], ◌∷◌, codes, true, false, pos, negsuc, None, Result, Ok}
use Rattle.md_schema.specs.declared.faults.ImageKind.TheVariants as kinds
use Rattle.wr_base.specs.declared.type_use.Base.TheVariants as bases
use Rattle.wr_base.specs.Trees.{plain, value, DeclTree, enum, struct, class}
use Rattle.winmd_rows.specs.Faults.{Fault, fault}
use Rattle.winmd_sets.specs.Shop.{case_of, field_of}
use Rattle.winmd_examples.specs.Edits.{Edited, found_in}
use Rattle.winmd_examples.specs.Layouts.{one_section, size_7}
use Rattle.winmd_examples.specs.Size.{size}

abbrev pub found : Edited → Result (List DeclTree) Fault
found e = found_in one_section e

-- ---- what it states beside the enum as it is

abbrev pub of_two_cases : DeclTree
of_two_cases = enum (codes "Shop.Size") 1 false (case_of (codes "Small") (pos 0) ∷ case_of (codes "Medium") (pos 5) ∷ [])

abbrev pub unsigned : DeclTree
unsigned = enum (codes "Shop.Size") 1 true (case_of (codes "Small") (pos 0) ∷ case_of (codes "Medium") (pos 5) ∷ case_of (codes "Large") (pos 2147483654) ∷ [])

abbrev pub signed : DeclTree
signed = enum (codes "Shop.Size") 1 false (case_of (codes "Small") (pos 0) ∷ case_of (codes "Medium") (pos 5) ∷ case_of (codes "Large") (negsuc 2147483641) ∷ [])

-- a struct of the enum's fields, and a class
abbrev pub of_fields : DeclTree
of_fields =
    struct (codes "Shop.Size") 1 (field_of (codes "value__") (plain bases.I32) ∷ field_of (codes "Small") (value (codes "Shop.Size"))
    ∷ field_of (codes "Medium") (value (codes "Shop.Size")) ∷ field_of (codes "Large") (value (codes "Shop.Size")) ∷ [])

abbrev pub without_members : DeclTree
without_members = class (codes "Shop.Size") 1 false None [] false [] []

-- ---- the edits

-- Edits that leave an enum, or no type.
abbrev pub states : List Edited
states =
    ([], Ok (size ∷ [])) ∷
    -- The time stamp of the file header, and another version of the runtime.
    ((0x88, 1 ∷ []) ∷ (0x269, 51 ∷ []) ∷ [], Ok (size ∷ [])) ∷
    -- No bytes behind the rows; Sorted; `#US` of another name; a second `#~`.
    ((0x274, 226 ∷ []) ∷ [], Ok (size ∷ [])) ∷
    ((0x2CC, 1 ∷ 2 ∷ 3 ∷ 4 ∷ 5 ∷ 6 ∷ 7 ∷ 8 ∷ []) ∷ [], Ok (size ∷ [])) ∷
    ((0x299, 88 ∷ 89 ∷ []) ∷ [], Ok (size ∷ [])) ∷
    ((0x299, 126 ∷ 0 ∷ []) ∷ [], Ok (size ∷ [])) ∷
    -- The value of the attribute is 7; then it has 6 bytes; the attribute stands on `<Module>`; is of System.Enum; of the enum itself; has no row.
    ((0x483, 7 ∷ []) ∷ [], Ok (size_7 ∷ [])) ∷
    ((0x483, 7 ∷ []) ∷ (0x480, 6 ∷ []) ∷ [], Ok (size_7 ∷ [])) ∷
    ((0x483, 7 ∷ []) ∷ (0x35A, 35 ∷ []) ∷ [], Ok (size ∷ [])) ∷
    ((0x483, 7 ∷ []) ∷ (0x342, 9 ∷ []) ∷ [], Ok (size ∷ [])) ∷
    ((0x483, 7 ∷ []) ∷ (0x342, 16 ∷ []) ∷ [], Ok (size ∷ [])) ∷
    ((0x483, 7 ∷ []) ∷ (0x2EC, 0 ∷ []) ∷ [], Ok (size ∷ [])) ∷
    -- Of System.Enum, with a value past the heap, and one of another prolog: neither is looked at.
    ((0x342, 9 ∷ []) ∷ (0x35E, 48 ∷ []) ∷ [], Ok (size ∷ [])) ∷
    ((0x342, 9 ∷ []) ∷ (0x481, 2 ∷ []) ∷ [], Ok (size ∷ [])) ∷
    -- An attribute of `<Module>` isn't looked at: its constructor past the table.
    ((0x35A, 35 ∷ []) ∷ (0x35C, 19 ∷ []) ∷ [], Ok (size ∷ [])) ∷
    -- `value__` and the constants of U4, and the highest bit of the last value; that bit where they are of I4.
    ((0x467, 9 ∷ []) ∷ (0x348, 9 ∷ []) ∷ (0x34E, 9 ∷ []) ∷ (0x354, 9 ∷ []) ∷ (0x47F, 128 ∷ []) ∷ [], Ok (unsigned ∷ [])) ∷
    ((0x47F, 128 ∷ []) ∷ [], Ok (signed ∷ [])) ∷
    -- The second byte of a row of Constant isn't looked at.
    ((0x349, 1 ∷ []) ∷ [], Ok (size ∷ [])) ∷
    -- The value of Small has a length of two bytes: `80 04` over the end of a token that isn't read, at the index 0x29.
    ((0x48D, 128 ∷ 4 ∷ 0 ∷ 0 ∷ 0 ∷ 0 ∷ []) ∷ (0x34C, 41 ∷ []) ∷ [], Ok (size ∷ [])) ∷
    -- The signature of `value__` has modifiers (II.23.2.7), written over that token, at the index 0x25: an optional one with a token of one
    -- byte; a required one with two bytes; with four; two of them, the second with the token 8.
    ((0x32E, 37 ∷ []) ∷ (0x489, 4 ∷ 6 ∷ 32 ∷ 9 ∷ 8 ∷ []) ∷ [], Ok (size ∷ [])) ∷
    ((0x32E, 37 ∷ []) ∷ (0x489, 5 ∷ 6 ∷ 31 ∷ 128 ∷ 129 ∷ 8 ∷ []) ∷ [], Ok (size ∷ [])) ∷
    ((0x32E, 37 ∷ []) ∷ (0x489, 7 ∷ 6 ∷ 31 ∷ 192 ∷ 0 ∷ 64 ∷ 1 ∷ 8 ∷ []) ∷ [], Ok (size ∷ [])) ∷
    ((0x32E, 37 ∷ []) ∷ (0x489, 6 ∷ 6 ∷ 31 ∷ 9 ∷ 32 ∷ 8 ∷ 8 ∷ []) ∷ [], Ok (size ∷ [])) ∷
    -- A modifier before U4.
    ((0x32E, 37 ∷ []) ∷ (0x489, 4 ∷ 6 ∷ 32 ∷ 8 ∷ 9 ∷ []) ∷ (0x348, 9 ∷ []) ∷ (0x34E, 9 ∷ []) ∷ (0x354, 9 ∷ []) ∷ (0x47F, 128 ∷ []) ∷ [], Ok (unsigned ∷ [])) ∷
    -- One row of Field less: the last case goes, and the rows behind it are read 6 bytes early. Then row 1 of Constant is that of `.ctor`,
    -- rows 2 and 3 are those of Small and Medium, and the attribute stands on no type.
    ((0x2E0, 3 ∷ []) ∷ [], Ok (of_two_cases ∷ [])) ∷
    -- No flag 0x4000; the first TypeRef is System.Attribute, the end of `VersionAttribute`; the enum is itself named `<Module>`.
    ((0x31D, 1 ∷ []) ∷ [], Ok []) ∷
    ((0x304, 32 ∷ []) ∷ [], Ok []) ∷
    ((0x320, 70 ∷ []) ∷ (0x322, 0 ∷ []) ∷ [], Ok []) ∷
    -- An interface, by its flag 0x20, that extends System.Attribute.
    ((0x31C, 33 ∷ []) ∷ (0x304, 32 ∷ []) ∷ [], Ok []) ∷
    -- Without the flag 0x4000 neither the name nor the namespace, Extends, the attribute's constructor or `value__` is looked at.
    ((0x31D, 1 ∷ []) ∷ (0x320, 176 ∷ []) ∷ [], Ok []) ∷
    ((0x31D, 1 ∷ []) ∷ (0x322, 176 ∷ []) ∷ [], Ok []) ∷
    ((0x31D, 1 ∷ []) ∷ (0x324, 7 ∷ []) ∷ [], Ok []) ∷
    ((0x31D, 1 ∷ []) ∷ (0x35C, 19 ∷ []) ∷ [], Ok []) ∷
    ((0x31D, 1 ∷ []) ∷ (0x32E, 48 ∷ []) ∷ [], Ok []) ∷
    -- What is named `<Module>` is passed over whatever it extends: a tag of no table.
    ((0x320, 70 ∷ []) ∷ (0x322, 0 ∷ []) ∷ (0x324, 7 ∷ []) ∷ [], Ok []) ∷
    -- What extends System.Attribute is passed over whatever its fields are: the signature of `value__` past the heap.
    ((0x304, 32 ∷ []) ∷ (0x32E, 48 ∷ []) ∷ [], Ok []) ∷
    -- `<Module>` with the flag 0x4000 is passed over too; without it its name isn't looked at, and in neither case what it extends.
    ((0x30F, 64 ∷ []) ∷ [], Ok (size ∷ [])) ∷
    ((0x312, 255 ∷ []) ∷ [], Ok (size ∷ [])) ∷
    ((0x316, 7 ∷ []) ∷ [], Ok (size ∷ [])) ∷
    ((0x30F, 64 ∷ []) ∷ (0x316, 7 ∷ []) ∷ [], Ok (size ∷ [])) ∷
    []

-- Faults of the headers and of the streams.
abbrev pub headers : List Edited
headers =
    ((0x0, 88 ∷ []) ∷ [], fault kinds.NotPe 0x0) ∷
    ((0x3C, 255 ∷ 255 ∷ 255 ∷ 255 ∷ []) ∷ [], fault kinds.NotPe 0xFFFFFFFF) ∷
    ((0x3C, 254 ∷ 5 ∷ []) ∷ [], fault kinds.NotPe 0x5FE) ∷
    ((0x83, 1 ∷ []) ∷ [], fault kinds.NotPe 0x80) ∷
    ((0x98, 0 ∷ 0 ∷ []) ∷ [], fault kinds.NotPe 0x98) ∷
    -- Addresses of 8 bytes: the directory is then looked for 16 bytes later, where the name of the section stands.
    ((0x99, 2 ∷ []) ∷ [], fault kinds.BadRva 0x178) ∷
    ((0x168, 0 ∷ 144 ∷ []) ∷ [], fault kinds.BadRva 0x168) ∷
    ((0x86, 0 ∷ []) ∷ [], fault kinds.BadRva 0x168) ∷
    ((0x86, 2 ∷ []) ∷ (0x188, 0 ∷ 0 ∷ []) ∷ [], fault kinds.BadRva 0x168) ∷
    -- The CLI header says that it has 71, 73, and 65,608 bytes; it is looked for 16 bytes later, where flags say 1.
    ((0x200, 71 ∷ []) ∷ [], fault kinds.NoCli 0x200) ∷
    ((0x200, 73 ∷ []) ∷ [], fault kinds.NoCli 0x200) ∷
    ((0x202, 1 ∷ []) ∷ [], fault kinds.NoCli 0x200) ∷
    ((0x168, 16 ∷ []) ∷ [], fault kinds.NoCli 0x210) ∷
    -- It says so, and that the metadata stand where no section is.
    ((0x200, 71 ∷ []) ∷ (0x209, 144 ∷ []) ∷ [], fault kinds.NoCli 0x200) ∷
    ((0x209, 144 ∷ []) ∷ [], fault kinds.BadRva 0x208) ∷
    -- The raw size of the section; the section's place in the file; the size of the metadata.
    ((0x188, 71 ∷ 0 ∷ []) ∷ [], fault kinds.BadRva 0x168) ∷
    ((0x188, 147 ∷ 2 ∷ []) ∷ [], fault kinds.BadRva 0x208) ∷
    ((0x18D, 6 ∷ []) ∷ [], fault kinds.BadRva 0x168) ∷
    ((0x20D, 4 ∷ []) ∷ [], fault kinds.BadRva 0x208) ∷
    ((0x248, 0 ∷ []) ∷ [], fault kinds.NoRoot 0x248) ∷
    ((0x255, 16 ∷ []) ∷ [], fault kinds.NoRoot 0x126E) ∷
    ((0x258, 88 ∷ []) ∷ [], fault kinds.NotWindowsRuntime 0x258) ∷
    ((0x267, 50 ∷ []) ∷ [], fault kinds.NotWindowsRuntime 0x258) ∷
    -- The place and the size of `#Strings`; a sixth header where the tables' stream begins.
    ((0x27F, 1 ∷ []) ∷ [], fault kinds.BadStream 0x27C) ∷
    ((0x281, 1 ∷ []) ∷ [], fault kinds.BadStream 0x27C) ∷
    ((0x26E, 6 ∷ []) ∷ [], fault kinds.BadStream 0x2BC) ∷
    ((0x279, 45 ∷ []) ∷ [], fault kinds.Uncompressed 0x248) ∷
    ((0x299, 45 ∷ 0 ∷ []) ∷ [], fault kinds.Uncompressed 0x248) ∷
    ((0x279, 88 ∷ []) ∷ [], fault kinds.MissingStream 0x248) ∷
    ((0x285, 115 ∷ []) ∷ [], fault kinds.MissingStream 0x248) ∷
    ((0x2A8, 88 ∷ []) ∷ [], fault kinds.MissingStream 0x248) ∷
    ((0x26E, 4 ∷ []) ∷ [], fault kinds.MissingStream 0x248) ∷
    []

-- Faults of the tables' stream.
abbrev pub stream : List Edited
stream =
    -- Its header is cut: no byte, 7 and 23 of 24, the last also with bit 3 of Valid, which is that of no table.
    ((0x274, 0 ∷ []) ∷ [], fault kinds.ShortTable 0x2BC) ∷
    ((0x274, 7 ∷ []) ∷ [], fault kinds.ShortTable 0x2C3) ∷
    ((0x274, 23 ∷ []) ∷ [], fault kinds.ShortTable 0x2D3) ∷
    ((0x274, 23 ∷ []) ∷ (0x2C4, 31 ∷ []) ∷ [], fault kinds.ShortTable 0x2D3) ∷
    -- It is whole, and nothing is behind it.
    ((0x274, 24 ∷ []) ∷ [], fault kinds.ShortTable 0x2D4) ∷
    ((0x274, 24 ∷ []) ∷ (0x2C4, 31 ∷ []) ∷ [], fault kinds.UnknownTable 0x2C4) ∷
    -- Bit 0x2D of Valid, and bit 3; the second beside rows that end past the stream.
    ((0x2C9, 32 ∷ []) ∷ [], fault kinds.UnknownTable 0x2C4) ∷
    ((0x2C4, 31 ∷ []) ∷ [], fault kinds.UnknownTable 0x2C4) ∷
    ((0x2C4, 31 ∷ []) ∷ (0x2E3, 255 ∷ []) ∷ [], fault kinds.UnknownTable 0x2C4) ∷
    -- The last byte of the rows; a row of Field more; 2^24 times 255 of them.
    ((0x274, 225 ∷ []) ∷ [], fault kinds.ShortTable 0x39D) ∷
    ((0x2E0, 5 ∷ []) ∷ [], fault kinds.ShortTable 0x3A0) ∷
    ((0x2E3, 255 ∷ []) ∷ [], fault kinds.ShortTable 0x3A0) ∷
    -- Indices of four bytes into `#Strings`.
    ((0x2C2, 1 ∷ []) ∷ [], fault kinds.ShortTable 0x3A0) ∷
    -- Rows past the stream, and a list past its table.
    ((0x2E0, 5 ∷ []) ∷ (0x318, 9 ∷ []) ∷ [], fault kinds.ShortTable 0x3A0) ∷
    -- The fields of `<Module>`, which end before row 1: they begin at 9, and at 2.
    ((0x318, 9 ∷ []) ∷ [], fault kinds.ListOrder 0x318) ∷
    ((0x318, 2 ∷ []) ∷ [], fault kinds.ListOrder 0x318) ∷
    -- The fields of the enum begin at 0, before those of `<Module>` do, and at 6, behind the end of the table; there those of both do; 256 further on.
    ((0x326, 0 ∷ []) ∷ [], fault kinds.ListOrder 0x318) ∷
    ((0x326, 6 ∷ []) ∷ [], fault kinds.ListOrder 0x318) ∷
    ((0x318, 6 ∷ []) ∷ (0x326, 6 ∷ []) ∷ [], fault kinds.ListOrder 0x318) ∷
    ((0x327, 1 ∷ []) ∷ [], fault kinds.ListOrder 0x318) ∷
    -- No method is there: those of `<Module>` begin at 2, and those of the enum at 2 and at 0.
    ((0x31A, 2 ∷ []) ∷ [], fault kinds.ListOrder 0x31A) ∷
    ((0x328, 2 ∷ []) ∷ [], fault kinds.ListOrder 0x31A) ∷
    ((0x328, 0 ∷ []) ∷ [], fault kinds.ListOrder 0x31A) ∷
    -- Methods and fields: the fields come first.
    ((0x31A, 2 ∷ []) ∷ (0x318, 2 ∷ []) ∷ [], fault kinds.ListOrder 0x318) ∷
    -- Before a type is read: the name of the enum past the heap. And where no type is read.
    ((0x31A, 2 ∷ []) ∷ (0x320, 176 ∷ []) ∷ [], fault kinds.ListOrder 0x31A) ∷
    ((0x31A, 2 ∷ []) ∷ (0x31D, 1 ∷ []) ∷ [], fault kinds.ListOrder 0x31A) ∷
    []

-- Faults of rows and of what they lead to.
abbrev pub rows : List Edited
rows =
    -- The fields of `<Module>` begin at row 0, and so do its methods, and those of the enum: each list runs forward.
    ((0x318, 0 ∷ []) ∷ [], fault kinds.RowRange 0x318) ∷
    ((0x31A, 0 ∷ []) ∷ [], fault kinds.RowRange 0x31A) ∷
    ((0x31A, 0 ∷ []) ∷ (0x328, 0 ∷ []) ∷ [], fault kinds.RowRange 0x328) ∷
    -- The name of the enum: past the heap; a text without end; no UTF-8; no text; no identifier. Its namespace.
    ((0x320, 176 ∷ []) ∷ [], fault kinds.HeapRange 0x320) ∷
    ((0x320, 175 ∷ []) ∷ (0x44F, 65 ∷ []) ∷ [], fault kinds.HeapText 0x320) ∷
    ((0x3EF, 255 ∷ []) ∷ [], fault kinds.HeapText 0x320) ∷
    ((0x320, 175 ∷ []) ∷ [], fault kinds.BadShape 0x320) ∷
    ((0x3EF, 49 ∷ []) ∷ [], fault kinds.BadShape 0x320) ∷
    ((0x322, 176 ∷ []) ∷ [], fault kinds.HeapRange 0x322) ∷
    ((0x322, 0 ∷ []) ∷ [], fault kinds.BadShape 0x320) ∷
    -- The name of `<Module>` where it has the flag 0x4000; its namespace; `Shop.<Module>`, which isn't passed over and extends nothing.
    ((0x30F, 64 ∷ []) ∷ (0x312, 255 ∷ []) ∷ [], fault kinds.HeapRange 0x312) ∷
    ((0x30F, 64 ∷ []) ∷ (0x314, 255 ∷ []) ∷ [], Ok (size ∷ [])) ∷
    ((0x30F, 64 ∷ []) ∷ (0x314, 84 ∷ []) ∷ [], Ok (size ∷ [])) ∷
    -- What the enum extends: row 3 of TypeRef, and of TypeDef; tag 3; a row whose name, and whose namespace, is past the heap.
    ((0x324, 13 ∷ []) ∷ [], fault kinds.RowRange 0x324) ∷
    ((0x324, 12 ∷ []) ∷ [], fault kinds.RowRange 0x324) ∷
    ((0x324, 7 ∷ []) ∷ [], fault kinds.BadTag 0x324) ∷
    ((0x304, 176 ∷ []) ∷ [], fault kinds.HeapRange 0x304) ∷
    ((0x306, 176 ∷ []) ∷ [], fault kinds.HeapRange 0x306) ∷
    -- Nothing: row 0 of TypeDef, of TypeRef and of TypeSpec.
    ((0x324, 0 ∷ []) ∷ [], fault kinds.RowRange 0x324) ∷
    ((0x324, 1 ∷ []) ∷ [], fault kinds.RowRange 0x324) ∷
    ((0x324, 2 ∷ []) ∷ [], fault kinds.RowRange 0x324) ∷
    -- A row of TypeSpec, which has none.
    ((0x324, 6 ∷ []) ∷ [], fault kinds.RowRange 0x324) ∷
    -- `VersionAttribute`; `<Module>`; Shop.Enum; System.Size; Shop.Object, its name written over that of an assembly.
    ((0x324, 9 ∷ []) ∷ [], fault kinds.BadShape 0x324) ∷
    ((0x324, 4 ∷ []) ∷ [], fault kinds.BadShape 0x324) ∷
    ((0x306, 84 ∷ []) ∷ [], fault kinds.BadShape 0x324) ∷
    ((0x304, 79 ∷ []) ∷ [], fault kinds.BadShape 0x324) ∷
    ((0x304, 137 ∷ []) ∷ (0x429, 79 ∷ 98 ∷ 106 ∷ 101 ∷ 99 ∷ 116 ∷ 0 ∷ []) ∷ (0x306, 84 ∷ []) ∷ [], fault kinds.BadShape 0x324) ∷
    -- What it extends before its own name: no identifier.
    ((0x3EF, 49 ∷ []) ∷ (0x324, 0 ∷ []) ∷ [], fault kinds.BadShape 0x320) ∷
    -- Its fields: from 0 on, where those of `<Module>` are so too; none.
    ((0x318, 0 ∷ []) ∷ (0x326, 0 ∷ []) ∷ [], fault kinds.RowRange 0x326) ∷
    ((0x326, 5 ∷ []) ∷ [], fault kinds.BadShape 0x326) ∷
    -- Its fields are cases alone.
    ((0x326, 2 ∷ []) ∷ [], fault kinds.BadShape 0x326) ∷
    -- Its name before its fields.
    ((0x318, 0 ∷ []) ∷ (0x326, 0 ∷ []) ∷ (0x3EF, 49 ∷ []) ∷ [], fault kinds.RowRange 0x326) ∷
    -- `value__`: of another type; with the flag of a case; beside a second field that is no case; its signature past the heap.
    ((0x32E, 4 ∷ []) ∷ [], fault kinds.BadShape 0x32E) ∷
    ((0x467, 8 ∷ []) ∷ (0x466, 7 ∷ []) ∷ [], fault kinds.SigElement 0x32E) ∷
    ((0x32A, 65 ∷ []) ∷ [], fault kinds.BadShape 0x326) ∷
    ((0x330, 22 ∷ []) ∷ [], fault kinds.BadShape 0x326) ∷
    ((0x32E, 48 ∷ []) ∷ [], fault kinds.HeapRange 0x32E) ∷
    -- Its signature, over a token at the index 0x25: a modifier whose token begins with bits 111.
    ((0x32E, 37 ∷ []) ∷ (0x489, 7 ∷ 6 ∷ 31 ∷ 224 ∷ 0 ∷ 0 ∷ 0 ∷ 8 ∷ []) ∷ [], fault kinds.BadLead 0x32E) ∷
    -- No byte; no type; of I2; a byte behind; a modifier with nothing behind its token
    -- of one byte, of two, or behind one that is cut; one behind the type; BYREF; 0x21, which is no modifier.
    ((0x32E, 37 ∷ []) ∷ (0x489, 0 ∷ []) ∷ [], fault kinds.SigShort 0x32E) ∷
    ((0x32E, 37 ∷ []) ∷ (0x489, 1 ∷ 6 ∷ []) ∷ [], fault kinds.SigShort 0x32E) ∷
    ((0x32E, 37 ∷ []) ∷ (0x489, 2 ∷ 6 ∷ 6 ∷ []) ∷ [], fault kinds.BadShape 0x32E) ∷
    ((0x32E, 37 ∷ []) ∷ (0x489, 3 ∷ 6 ∷ 8 ∷ 0 ∷ []) ∷ [], fault kinds.SigTail 0x32E) ∷
    ((0x32E, 37 ∷ []) ∷ (0x489, 3 ∷ 6 ∷ 32 ∷ 8 ∷ []) ∷ [], fault kinds.SigShort 0x32E) ∷
    ((0x32E, 37 ∷ []) ∷ (0x489, 4 ∷ 6 ∷ 31 ∷ 128 ∷ 8 ∷ []) ∷ [], fault kinds.SigShort 0x32E) ∷
    ((0x32E, 37 ∷ []) ∷ (0x489, 5 ∷ 6 ∷ 31 ∷ 192 ∷ 0 ∷ 8 ∷ []) ∷ [], fault kinds.Short 0x32E) ∷
    ((0x32E, 37 ∷ []) ∷ (0x489, 4 ∷ 6 ∷ 8 ∷ 32 ∷ 9 ∷ []) ∷ [], fault kinds.SigTail 0x32E) ∷
    ((0x32E, 37 ∷ []) ∷ (0x489, 3 ∷ 6 ∷ 16 ∷ 8 ∷ []) ∷ [], fault kinds.SigElement 0x32E) ∷
    ((0x32E, 37 ∷ []) ∷ (0x489, 4 ∷ 6 ∷ 33 ∷ 9 ∷ 8 ∷ []) ∷ [], fault kinds.SigElement 0x32E) ∷
    -- A case's name past the heap, and one that is no identifier, also where it has no constant.
    ((0x332, 176 ∷ []) ∷ [], fault kinds.HeapRange 0x332) ∷
    ((0x401, 45 ∷ []) ∷ [], fault kinds.BadShape 0x332) ∷
    ((0x401, 45 ∷ []) ∷ (0x34A, 9 ∷ []) ∷ [], fault kinds.BadShape 0x332) ∷
    -- The Parent of Small's constant: Param; no table; Medium. One constant less.
    ((0x34A, 9 ∷ []) ∷ [], fault kinds.BadShape 0x330) ∷
    ((0x34A, 11 ∷ []) ∷ [], fault kinds.BadShape 0x330) ∷
    ((0x34A, 12 ∷ []) ∷ [], fault kinds.BadShape 0x330) ∷
    ((0x350, 8 ∷ []) ∷ [], fault kinds.BadShape 0x330) ∷
    ((0x2E8, 2 ∷ []) ∷ [], fault kinds.BadShape 0x33C) ∷
    -- The type of Small's constant is U4, that of Large is I2; `value__` is of U4, and the constants of I4; Small alone is of U4 there.
    ((0x348, 9 ∷ []) ∷ [], fault kinds.BadShape 0x34C) ∷
    ((0x354, 6 ∷ []) ∷ [], fault kinds.BadShape 0x358) ∷
    ((0x467, 9 ∷ []) ∷ [], fault kinds.BadShape 0x34C) ∷
    ((0x467, 9 ∷ []) ∷ (0x348, 9 ∷ []) ∷ [], fault kinds.BadShape 0x352) ∷
    -- Small's value: of two bytes, and of five; past the heap; longer than the heap; behind a lead of bits 111; behind a length that is cut.
    ((0x34C, 1 ∷ []) ∷ [], fault kinds.BadShape 0x34C) ∷
    ((0x471, 5 ∷ []) ∷ [], fault kinds.BadShape 0x34C) ∷
    ((0x34C, 48 ∷ []) ∷ [], fault kinds.HeapRange 0x34C) ∷
    ((0x471, 35 ∷ []) ∷ [], fault kinds.BadLength 0x34C) ∷
    ((0x471, 224 ∷ []) ∷ [], fault kinds.BadLead 0x34C) ∷
    ((0x34C, 47 ∷ []) ∷ (0x493, 128 ∷ []) ∷ [], fault kinds.Short 0x34C) ∷
    -- Past the heap, where the type is another.
    ((0x34C, 48 ∷ []) ∷ (0x348, 9 ∷ []) ∷ [], fault kinds.HeapRange 0x34C) ∷
    -- The attribute: its constructor past the table, of tag 0, row 0; a method past its table, which has no rows, and row 0 of it.
    ((0x35C, 19 ∷ []) ∷ [], fault kinds.RowRange 0x35C) ∷
    ((0x35C, 8 ∷ []) ∷ [], fault kinds.BadTag 0x35C) ∷
    ((0x35C, 3 ∷ []) ∷ [], fault kinds.RowRange 0x35C) ∷
    ((0x35C, 10 ∷ []) ∷ [], fault kinds.RowRange 0x35C) ∷
    ((0x35C, 2 ∷ []) ∷ [], fault kinds.RowRange 0x35C) ∷
    -- Its value past the heap, of 3 bytes and of 5; a prolog of `02 00`, and of `01 01`.
    ((0x35E, 48 ∷ []) ∷ [], fault kinds.HeapRange 0x35E) ∷
    ((0x35E, 4 ∷ []) ∷ [], fault kinds.BadShape 0x35E) ∷
    ((0x480, 5 ∷ []) ∷ [], fault kinds.BadShape 0x35E) ∷
    ((0x481, 2 ∷ []) ∷ [], fault kinds.BadShape 0x35E) ∷
    ((0x482, 1 ∷ []) ∷ [], fault kinds.BadShape 0x35E) ∷
    -- The class of the constructor: past TypeRef, past TypeDef, and past ModuleRef, which has no rows; row 0 of each, and of MethodDef; of tag 5; its
    -- name past the heap.
    ((0x342, 25 ∷ []) ∷ [], fault kinds.RowRange 0x342) ∷
    ((0x342, 24 ∷ []) ∷ [], fault kinds.RowRange 0x342) ∷
    ((0x342, 10 ∷ []) ∷ [], fault kinds.RowRange 0x342) ∷
    ((0x342, 1 ∷ []) ∷ [], fault kinds.RowRange 0x342) ∷
    ((0x342, 0 ∷ []) ∷ [], fault kinds.RowRange 0x342) ∷
    ((0x342, 2 ∷ []) ∷ [], fault kinds.RowRange 0x342) ∷
    ((0x342, 3 ∷ []) ∷ [], fault kinds.RowRange 0x342) ∷
    ((0x342, 21 ∷ []) ∷ [], fault kinds.BadTag 0x342) ∷
    ((0x30A, 176 ∷ []) ∷ [], fault kinds.HeapRange 0x30A) ∷
    -- The cases before the attribute: a constant of another type, and a constructor past the table.
    ((0x348, 9 ∷ []) ∷ (0x35C, 19 ∷ []) ∷ [], fault kinds.RowRange 0x35C) ∷
    []

-- Types of other kinds.
abbrev pub others : List Edited
others =
    -- An interface without an id, which extends an enum, nothing, and an attribute's type; a struct of the enum's fields; a delegate without an id; a
    -- class; an interface of no path.
    ((0x31C, 33 ∷ []) ∷ [], fault kinds.MissingAttribute 0x31C) ∷
    ((0x31C, 33 ∷ []) ∷ (0x324, 0 ∷ []) ∷ [], fault kinds.MissingAttribute 0x31C) ∷
    ((0x31C, 33 ∷ []) ∷ (0x324, 9 ∷ []) ∷ [], fault kinds.MissingAttribute 0x31C) ∷
    ((0x304, 137 ∷ []) ∷ (0x429, 86 ∷ 97 ∷ 108 ∷ 117 ∷ 101 ∷ 84 ∷ 121 ∷ 112 ∷ 101 ∷ 0 ∷ []) ∷ [], Ok (of_fields ∷ [])) ∷
    ((0x304, 137 ∷ []) ∷ (0x429, 77 ∷ 117 ∷ 108 ∷ 116 ∷ 105 ∷ 99 ∷ 97 ∷ 115 ∷ 116 ∷ 68 ∷ 101 ∷ 108 ∷ 101 ∷ 103 ∷ 97 ∷ 116 ∷ 101 ∷ 0 ∷ []) ∷ [], fault kinds.MissingAttribute 0x31C) ∷
    ((0x304, 137 ∷ []) ∷ (0x429, 79 ∷ 98 ∷ 106 ∷ 101 ∷ 99 ∷ 116 ∷ 0 ∷ []) ∷ [], Ok (without_members ∷ [])) ∷
    ((0x31C, 33 ∷ []) ∷ (0x3EF, 49 ∷ []) ∷ [], fault kinds.BadShape 0x320) ∷
    []

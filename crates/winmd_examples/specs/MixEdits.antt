-- The image of a set with a struct, instances and overloads with some of its bytes written over, and what it then states. The set is in
-- `winmd_sets`; offsets and answers were worked out by hand from the tables of ECMA-335 II.22.
use Rattle.std.specs.Prelude.{false, List, [], ◌∷◌, ◌++◌, codes, take, drop, None, Result, Ok}
use Rattle.md_schema.specs.declared.faults.ImageKind.TheVariants as kinds
use Rattle.wr_base.specs.declared.type_use.Base.TheVariants as bases
use Rattle.wr_base.specs.Trees.{plain, value, reference, DeclTree, struct, class}
use Rattle.winmd_rows.specs.Faults.{Fault, fault}
use Rattle.winmd_sets.specs.Shop.{field_of}
use Rattle.winmd_sets.specs.Mix.{mix, mix_image}
use Rattle.winmd_examples.specs.Edits.{Edited, byte, cell, found_in}

abbrev pub found : Edited → Result (List DeclTree) Fault
found e = found_in mix_image e

-- another declaration in place of Mix.Spot
abbrev pub with_spot : DeclTree → List DeclTree
with_spot d = take 6 mix ++ d ∷ drop 7 mix

-- `Id` is a reference to System.Guid
abbrev pub spot_of_reference : DeclTree
spot_of_reference =
    struct (codes "Mix.Spot") 1 (field_of (codes "X") (plain bases.I32) ∷ field_of (codes "Y") (plain bases.I32)
    ∷ field_of (codes "Id") (reference (codes "System.Guid")) ∷ field_of (codes "Kind") (value (codes "Mix.Size")) ∷ [])

-- ---- the struct Mix.Spot: row 8 of TypeDef at 0x3EE, its fields from 0x422 on

abbrev pub structs : List Edited
structs =
    ([], Ok mix) ∷
    -- It extends System.Object, and is a class; two versions; none, so that it is 1.
    (cell 0x3F6 0x11, Ok (with_spot (class (codes "Mix.Spot") 1 false None [] false [] []))) ∷
    (cell 0x61A 0x103, fault kinds.BadShape 0x3EE) ∷
    (cell 0x614 0x23, Ok mix) ∷
    -- The name of a field; its signature: CLASS for VALUETYPE, a TypeSpec, another kind, past the heap.
    (cell 0x424 0, fault kinds.BadShape 0x424) ∷
    (byte 0x97A 0x12, Ok (with_spot spot_of_reference)) ∷
    (byte 0x97B 0x0A, fault kinds.SigElement 0x432) ∷
    (byte 0x979 0x07, fault kinds.SigElement 0x432) ∷
    (cell 0x432 0x178, fault kinds.HeapRange 0x432) ∷
    -- Its fields begin one later, so that the enum before it has two fields that are no cases.
    (cell 0x3F8 6, fault kinds.BadShape 0x3EA) ∷
    []

-- ---- instances and overloads of Mix.IMore: the first TypeSpec spells its bytes from 0xAD0 on, the ABI name stands from 0xA72 on

abbrev pub instances : List Edited
instances =
    -- An argument of ELEMENT_TYPE_R4; two arguments of a template of one; none; a template that is a value type.
    (byte 0xAD4 0x0C, fault kinds.FloatType 0x692) ∷
    (byte 0xAD3 2, fault kinds.SigElement 0x692) ∷
    (byte 0xAD3 0, fault kinds.SigElement 0x692) ∷
    (byte 0xAD1 0x11, fault kinds.SigElement 0x692) ∷
    -- The template's name is past the heap: a fault of the cell of that name.
    (cell 0x358 0x288, fault kinds.HeapRange 0x358) ∷
    -- An event of a TypeSpec that isn't there.
    (cell 0x640 0x0E, fault kinds.RowRange 0x640) ∷
    -- The second method of a name: no other name is given, and it is the same; one that is no identifier; one past the value.
    (cell 0x5F8 0x1B, Ok mix) ∷
    (byte 0xA72 0x31, fault kinds.BadShape 0x5FA) ∷
    (byte 0xA71 0x7F, fault kinds.BadShape 0x5FA) ∷
    []

-- Images with other types, and with attributes that are made by methods of the image, and what they state.
use Rattle.std.specs.Prelude.{List, [], ◌∷◌, codes, Result, Ok}
use Rattle.md_schema.specs.declared.faults.ImageKind.TheVariants as kinds
use Rattle.wr_base.specs.Trees.{DeclTree}
use Rattle.winmd_rows.specs.Faults.{Fault, fault}
use Rattle.winmd_strict.specs.Reading.{TypesOf}
use Rattle.winmd_examples.specs.Built.{refs, types, fields, methods, makers, attributes, nesteds, generics, enum_ref, version_ref, module_row, a_type, value_field, a_method, a_maker, attribute, nested, generic, an_enum, Built, built, further_texts, further_blobs}

-- what the image with these tables states
abbrev pub found : Built → Result (List DeclTree) Fault
found b = TypesOf (built b.0 further_texts further_blobs)

-- Types: generic, nested, of another type of this image, of one name.
abbrev pub types_ : List Built
types_ =
    -- The owners of two generic parameters: a method and the type; methods; row 0 of TypeDef; without a type; where the type's name is past the heap.
    (refs (enum_ref ∷ []) ∷ types (a_type 0x4101 79 84 5 1 1 ∷ []) ∷ fields (value_field ∷ []) ∷ generics (generic 0 3 ∷ generic 1 2 ∷ []) ∷ [], fault kinds.GenericDefinition 0x4E2) ∷
    (refs (enum_ref ∷ []) ∷ types (a_type 0x4101 79 84 5 1 1 ∷ []) ∷ fields (value_field ∷ []) ∷ generics (generic 0 3 ∷ generic 1 5 ∷ []) ∷ [], Ok (an_enum (codes "Shop.Size") 1 ∷ [])) ∷
    (refs (enum_ref ∷ []) ∷ types (a_type 0x4101 79 84 5 1 1 ∷ []) ∷ fields (value_field ∷ []) ∷ generics (generic 0 0 ∷ []) ∷ [], fault kinds.GenericDefinition 0x4DA) ∷
    (generics (generic 0 2 ∷ []) ∷ [], fault kinds.GenericDefinition 0x4B4) ∷
    (refs (enum_ref ∷ []) ∷ types (a_type 0x4101 255 84 5 1 1 ∷ []) ∷ fields (value_field ∷ []) ∷ generics (generic 0 2 ∷ []) ∷ [], fault kinds.GenericDefinition 0x4DA) ∷
    -- `<Module>` within `Shop.Size`; that, and the other way round; an interface within `<Module>`; a type within it that isn't read.
    (refs (enum_ref ∷ []) ∷ types (module_row ∷ a_type 0x4101 79 84 5 1 1 ∷ []) ∷ fields (value_field ∷ []) ∷ nesteds (nested 1 2 ∷ []) ∷ [], Ok (an_enum (codes "Shop.Size") 1 ∷ [])) ∷
    (refs (enum_ref ∷ []) ∷ types (module_row ∷ a_type 0x4101 79 84 5 1 1 ∷ []) ∷ fields (value_field ∷ []) ∷ nesteds (nested 1 2 ∷ nested 2 1 ∷ []) ∷ [], fault kinds.Nested 0x4E8) ∷
    (refs (enum_ref ∷ []) ∷ types (module_row ∷ a_type 0x4121 79 84 5 1 1 ∷ []) ∷ fields (value_field ∷ []) ∷ nesteds (nested 2 1 ∷ nested 2 1 ∷ []) ∷ [], fault kinds.Nested 0x4E4) ∷
    (refs (enum_ref ∷ []) ∷ types (module_row ∷ a_type 0x101 79 84 5 1 1 ∷ []) ∷ fields (value_field ∷ []) ∷ nesteds (nested 2 1 ∷ []) ∷ [], Ok []) ∷
    -- Before its kind and after what it extends: nothing; row 2 of TypeRef, which has one.
    (refs (enum_ref ∷ []) ∷ types (a_type 0x4101 79 84 0 1 1 ∷ []) ∷ fields (value_field ∷ []) ∷ nesteds (nested 1 1 ∷ []) ∷ [], fault kinds.Nested 0x4D6) ∷
    (refs (enum_ref ∷ []) ∷ types (a_type 0x4101 79 84 9 1 1 ∷ []) ∷ fields (value_field ∷ []) ∷ nesteds (nested 1 1 ∷ []) ∷ [], fault kinds.RowRange 0x4CA) ∷
    -- What it extends is row 1 of TypeDef, which is System.Enum.
    (types (a_type 0 13 18 0 1 1 ∷ a_type 0x4101 79 84 4 1 1 ∷ []) ∷ fields (value_field ∷ []) ∷ [], Ok (an_enum (codes "Shop.Size") 1 ∷ [])) ∷
    -- Two types; two of one name, beside each other, behind another, and with another between; one of the two isn't read.
    (refs (enum_ref ∷ []) ∷ types (a_type 0x4101 79 84 5 1 1 ∷ a_type 0x4101 97 84 5 2 1 ∷ []) ∷ fields (value_field ∷ value_field ∷ []) ∷ [], Ok (an_enum (codes "Shop.Size") 1 ∷ an_enum (codes "Shop.Small") 1 ∷ [])) ∷
    (refs (enum_ref ∷ []) ∷ types (a_type 0x4101 79 84 5 1 1 ∷ a_type 0x4101 79 84 5 2 1 ∷ []) ∷ fields (value_field ∷ value_field ∷ []) ∷ [], fault kinds.BadShape 0x4C2) ∷
    (refs (enum_ref ∷ []) ∷ types (a_type 0x4101 97 84 5 1 1 ∷ a_type 0x4101 79 84 5 2 1 ∷ a_type 0x4101 79 84 5 3 1 ∷ []) ∷ fields (value_field ∷ value_field ∷ value_field ∷ []) ∷ [], fault kinds.BadShape 0x4D0) ∷
    (refs (enum_ref ∷ []) ∷ types (a_type 0x4101 79 84 5 1 1 ∷ a_type 0x4101 97 84 5 2 1 ∷ a_type 0x4101 79 84 5 3 1 ∷ []) ∷ fields (value_field ∷ value_field ∷ value_field ∷ []) ∷ [], fault kinds.BadShape 0x4C2) ∷
    (refs (enum_ref ∷ []) ∷ types (a_type 0x4101 79 84 5 1 1 ∷ a_type 0x101 79 84 5 2 1 ∷ []) ∷ fields (value_field ∷ value_field ∷ []) ∷ [], Ok (an_enum (codes "Shop.Size") 1 ∷ [])) ∷
    -- One name in two ways: `B.C` in `A`, and `C` in `A.B`.
    (refs (enum_ref ∷ []) ∷ types (a_type 0x4101 182 176 5 1 1 ∷ a_type 0x4101 186 178 5 2 1 ∷ []) ∷ fields (value_field ∷ value_field ∷ []) ∷ [], fault kinds.BadShape 0x4C2) ∷
    -- A later type is read before names are compared: one without a name.
    (refs (enum_ref ∷ []) ∷ types (a_type 0x4101 79 84 5 1 1 ∷ a_type 0x4101 79 84 5 2 1 ∷ a_type 0x4101 175 84 5 3 1 ∷ []) ∷ fields (value_field ∷ value_field ∷ value_field ∷ []) ∷ [], fault kinds.BadShape 0x4DE) ∷
    []

-- Attributes: made by methods of this image, and more than one.
abbrev pub attributed : List Built
attributed =
    -- The method 1 is that of `VersionAttribute`, between those of two types without; the method 2 is that of `Shop.Size`; there is no method 3.
    (refs (enum_ref ∷ []) ∷ types (module_row ∷ a_type 0 25 42 0 1 1 ∷ a_type 0x4101 79 84 5 1 2 ∷ []) ∷ fields (value_field ∷ []) ∷ methods (a_method 1 ∷ a_method 1 ∷ []) ∷ attributes (attribute 99 10 48 ∷ []) ∷ [], Ok (an_enum (codes "Shop.Size") 7 ∷ [])) ∷
    (refs (enum_ref ∷ []) ∷ types (module_row ∷ a_type 0 25 42 0 1 1 ∷ a_type 0x4101 79 84 5 1 2 ∷ []) ∷ fields (value_field ∷ []) ∷ methods (a_method 1 ∷ a_method 1 ∷ []) ∷ attributes (attribute 99 18 48 ∷ []) ∷ [], Ok (an_enum (codes "Shop.Size") 1 ∷ [])) ∷
    (refs (enum_ref ∷ []) ∷ types (module_row ∷ a_type 0 25 42 0 1 1 ∷ a_type 0x4101 79 84 5 1 2 ∷ []) ∷ fields (value_field ∷ []) ∷ methods (a_method 1 ∷ a_method 1 ∷ []) ∷ attributes (attribute 99 26 48 ∷ []) ∷ [], fault kinds.RowRange 0x514) ∷
    -- The method 1 is that of `<Module>`; of `Shop.Size`, behind `VersionAttribute` that has none; of no type.
    (refs (enum_ref ∷ []) ∷ types (module_row ∷ a_type 0 25 42 0 1 2 ∷ a_type 0x4101 79 84 5 1 2 ∷ []) ∷ fields (value_field ∷ []) ∷ methods (a_method 1 ∷ a_method 1 ∷ []) ∷ attributes (attribute 99 10 48 ∷ []) ∷ [], Ok (an_enum (codes "Shop.Size") 1 ∷ [])) ∷
    (refs (enum_ref ∷ []) ∷ types (module_row ∷ a_type 0 25 42 0 1 1 ∷ a_type 0x4101 79 84 5 1 1 ∷ []) ∷ fields (value_field ∷ []) ∷ methods (a_method 1 ∷ a_method 1 ∷ []) ∷ attributes (attribute 99 10 48 ∷ []) ∷ [], Ok (an_enum (codes "Shop.Size") 1 ∷ [])) ∷
    (refs (enum_ref ∷ []) ∷ types (a_type 0 70 0 0 1 2 ∷ a_type 0 25 42 0 1 2 ∷ a_type 0x4101 79 84 5 1 2 ∷ []) ∷ fields (value_field ∷ []) ∷ methods (a_method 1 ∷ a_method 1 ∷ []) ∷ attributes (attribute 99 10 48 ∷ []) ∷ [], fault kinds.RowRange 0x514) ∷
    -- The name of the type that has it is past the heap.
    (refs (enum_ref ∷ []) ∷ types (module_row ∷ a_type 0 255 42 0 1 1 ∷ a_type 0x4101 79 84 5 1 2 ∷ []) ∷ fields (value_field ∷ []) ∷ methods (a_method 1 ∷ a_method 1 ∷ []) ∷ attributes (attribute 99 10 48 ∷ []) ∷ [], fault kinds.HeapRange 0x4D8) ∷
    -- Two versions, also with values past the heap.
    (refs (enum_ref ∷ version_ref ∷ []) ∷ types (a_type 0x4101 79 84 5 1 1 ∷ []) ∷ fields (value_field ∷ []) ∷ makers (a_maker 17 ∷ []) ∷ attributes (attribute 35 11 48 ∷ attribute 35 11 48 ∷ []) ∷ [], fault kinds.BadShape 0x4CC) ∷
    (refs (enum_ref ∷ version_ref ∷ []) ∷ types (a_type 0x4101 79 84 5 1 1 ∷ []) ∷ fields (value_field ∷ []) ∷ makers (a_maker 17 ∷ []) ∷ attributes (attribute 35 11 255 ∷ attribute 35 11 255 ∷ []) ∷ [], fault kinds.BadShape 0x4CC) ∷
    -- A version, and an attribute of System.Enum with a value past the heap.
    (refs (enum_ref ∷ version_ref ∷ []) ∷ types (a_type 0x4101 79 84 5 1 1 ∷ []) ∷ fields (value_field ∷ []) ∷ makers (a_maker 17 ∷ a_maker 9 ∷ []) ∷ attributes (attribute 35 19 255 ∷ attribute 35 11 48 ∷ []) ∷ [], Ok (an_enum (codes "Shop.Size") 7 ∷ [])) ∷
    -- The constructors of all attributes before the value of one: the version's value past the heap, then a constructor of no class.
    (refs (enum_ref ∷ version_ref ∷ []) ∷ types (a_type 0x4101 79 84 5 1 1 ∷ []) ∷ fields (value_field ∷ []) ∷ makers (a_maker 17 ∷ a_maker 0 ∷ []) ∷ attributes (attribute 35 11 255 ∷ attribute 35 19 48 ∷ []) ∷ [], fault kinds.RowRange 0x4E6) ∷
    -- The version of another type isn't that of this one: row 1 has 7, row 2 none.
    (refs (enum_ref ∷ version_ref ∷ []) ∷ types (a_type 0x4101 79 84 5 1 1 ∷ a_type 0x4101 97 84 5 2 1 ∷ []) ∷ fields (value_field ∷ value_field ∷ []) ∷ makers (a_maker 17 ∷ []) ∷ attributes (attribute 35 11 48 ∷ []) ∷ [], Ok (an_enum (codes "Shop.Size") 7 ∷ an_enum (codes "Shop.Small") 1 ∷ [])) ∷
    []

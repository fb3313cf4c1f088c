-- Images with names at and past their limits, and what they state.
use Rattle.std.specs.Prelude.{ℕ, List, [], ◌∷◌, ◌++◌, false, codes, pos, Result, Ok}
use Rattle.md_schema.specs.declared.faults.ImageKind.TheVariants as kinds
use Rattle.wr_base.specs.Trees.{DeclTree, enum}
use Rattle.winmd_rows.specs.Faults.{Fault, fault}
use Rattle.winmd_sets.specs.Shop.{case_of}
use Rattle.winmd_strict.specs.Reading.{TypesOf}
use Rattle.winmd_examples.specs.Built.{constants, a_case, zero_of, refs, types, fields, enum_ref, a_type, value_field, an_enum, letters, Built, built}

-- `#Strings` has further 600 letters at 0xB0, and one text of 127 and 128 letters with a dot between them at 0x309.
abbrev pub long_texts : List ℕ
long_texts = letters 97 600 ++ 0 ∷ letters 98 127 ++ 46 ∷ letters 98 128 ++ 0 ∷ []

abbrev pub found : Built → Result (List DeclTree) Fault
found b = TypesOf (built b.0 long_texts [])

-- Full names of 511 bytes, parts and names of cases of 255.
abbrev pub names : List Built
names =
    (refs (enum_ref ∷ []) ∷ types (a_type 0x4101 521 772 5 1 1 ∷ []) ∷ fields (value_field ∷ []) ∷ [], Ok (an_enum (letters 97 4 ++ 46 ∷ letters 97 255) 1 ∷ [])) ∷
    (refs (enum_ref ∷ []) ∷ types (a_type 0x4101 521 521 5 1 1 ∷ []) ∷ fields (value_field ∷ []) ∷ [], Ok (an_enum (letters 97 255 ++ 46 ∷ letters 97 255) 1 ∷ [])) ∷
    (refs (enum_ref ∷ []) ∷ types (a_type 0x4101 522 777 5 1 1 ∷ []) ∷ fields (value_field ∷ []) ∷ [], Ok (an_enum (letters 98 127 ++ 46 ∷ letters 98 128 ++ 46 ∷ letters 97 254) 1 ∷ [])) ∷
    (refs (enum_ref ∷ []) ∷ types (a_type 0x4101 520 772 5 1 1 ∷ []) ∷ fields (value_field ∷ []) ∷ [], fault kinds.PastLimit 0x4C2) ∷
    (refs (enum_ref ∷ []) ∷ types (a_type 0x4101 772 520 5 1 1 ∷ []) ∷ fields (value_field ∷ []) ∷ [], fault kinds.PastLimit 0x4C2) ∷
    (refs (enum_ref ∷ []) ∷ types (a_type 0x4101 521 777 5 1 1 ∷ []) ∷ fields (value_field ∷ []) ∷ [], fault kinds.PastLimit 0x4C2) ∷
    -- The name of a case: 255 bytes; 256, also where the case has no constant.
    (refs (enum_ref ∷ []) ∷ types (a_type 0x4101 79 84 5 1 1 ∷ []) ∷ fields (value_field ∷ a_case 521 ∷ []) ∷ constants (zero_of 2 ∷ []) ∷ [], Ok (enum (codes "Shop.Size") 1 false (case_of (letters 97 255) (pos 0) ∷ []) ∷ [])) ∷
    (refs (enum_ref ∷ []) ∷ types (a_type 0x4101 79 84 5 1 1 ∷ []) ∷ fields (value_field ∷ a_case 520 ∷ []) ∷ constants (zero_of 2 ∷ []) ∷ [], fault kinds.PastLimit 0x4D8) ∷
    (refs (enum_ref ∷ []) ∷ types (a_type 0x4101 79 84 5 1 1 ∷ []) ∷ fields (value_field ∷ a_case 520 ∷ []) ∷ [], fault kinds.PastLimit 0x4D4) ∷
    []

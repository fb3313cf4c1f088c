-- Images whose lists of rows run backwards, past the end, or begin at 0, and what they state.
use Rattle.std.specs.Prelude.{List, [], ◌∷◌, Result, Ok}
use Rattle.md_schema.specs.declared.faults.ImageKind.TheVariants as kinds
use Rattle.wr_base.specs.Trees.{DeclTree}
use Rattle.winmd_rows.specs.Faults.{Fault, fault}
use Rattle.winmd_strict.specs.Reading.{TypesOf}
use Rattle.winmd_examples.specs.Built.{refs, types, fields, methods, params, event_maps, events, property_maps, properties, generics, enum_ref, a_type, value_field, a_method, a_param, a_map, event_row, property_row, generic, Built, built, further_texts, further_blobs}

-- what the image with these tables states
abbrev pub found : Built → Result (List DeclTree) Fault
found b = TypesOf (built b.0 further_texts further_blobs)

-- Which list is looked at first, and which row.
abbrev pub lists : List Built
lists =
    -- Parameters, of which there are none: past the end, from the first row on; backwards; past the end in the last row; none.
    (methods (a_method 1 ∷ a_method 2 ∷ []) ∷ [], fault kinds.ListOrder 0x4BC) ∷
    (methods (a_method 2 ∷ a_method 1 ∷ []) ∷ [], fault kinds.ListOrder 0x4BC) ∷
    (methods (a_method 2 ∷ []) ∷ [], fault kinds.ListOrder 0x4BC) ∷
    (methods (a_method 1 ∷ a_method 1 ∷ []) ∷ [], Ok []) ∷
    (methods (a_method 0 ∷ a_method 1 ∷ []) ∷ [], fault kinds.RowRange 0x4BC) ∷
    -- There is one: in the list of the first row; past it; in order first, and then backwards.
    (methods (a_method 1 ∷ a_method 2 ∷ []) ∷ params (a_param ∷ []) ∷ [], Ok []) ∷
    (methods (a_method 1 ∷ a_method 3 ∷ []) ∷ params (a_param ∷ []) ∷ [], fault kinds.ListOrder 0x4C0) ∷
    (methods (a_method 1 ∷ a_method 2 ∷ a_method 1 ∷ []) ∷ params (a_param ∷ []) ∷ [], fault kinds.ListOrder 0x4CE) ∷
    -- Events and properties, of which there are none, and one.
    (event_maps (a_map 1 1 ∷ a_map 1 2 ∷ []) ∷ [], fault kinds.ListOrder 0x4B2) ∷
    (event_maps (a_map 1 1 ∷ a_map 1 2 ∷ []) ∷ events (event_row ∷ []) ∷ [], Ok []) ∷
    (event_maps (a_map 1 2 ∷ a_map 1 1 ∷ []) ∷ events (event_row ∷ []) ∷ [], fault kinds.ListOrder 0x4B6) ∷
    (property_maps (a_map 1 1 ∷ a_map 1 2 ∷ []) ∷ [], fault kinds.ListOrder 0x4B2) ∷
    (property_maps (a_map 1 1 ∷ a_map 1 2 ∷ []) ∷ properties (property_row ∷ []) ∷ [], Ok []) ∷
    (property_maps (a_map 1 2 ∷ a_map 1 1 ∷ []) ∷ properties (property_row ∷ []) ∷ [], fault kinds.ListOrder 0x4B6) ∷
    -- Events before properties, parameters before both, and methods before parameters.
    (event_maps (a_map 1 2 ∷ []) ∷ property_maps (a_map 1 2 ∷ []) ∷ [], fault kinds.ListOrder 0x4B6) ∷
    (event_maps (a_map 1 1 ∷ []) ∷ property_maps (a_map 1 2 ∷ []) ∷ [], fault kinds.ListOrder 0x4BA) ∷
    (methods (a_method 2 ∷ []) ∷ event_maps (a_map 1 2 ∷ []) ∷ property_maps (a_map 1 2 ∷ []) ∷ [], fault kinds.ListOrder 0x4C4) ∷
    (types (a_type 0 70 0 0 1 3 ∷ []) ∷ methods (a_method 2 ∷ []) ∷ [], fault kinds.ListOrder 0x4C0) ∷
    -- The fields and the methods of the only type begin past the end; three types of one field, the lists of the last two backwards.
    (types (a_type 0 70 0 0 2 1 ∷ []) ∷ [], fault kinds.ListOrder 0x4BA) ∷
    (types (a_type 0 70 0 0 1 2 ∷ []) ∷ [], fault kinds.ListOrder 0x4BC) ∷
    (types (a_type 0x101 79 84 5 1 1 ∷ a_type 0x101 79 84 5 2 1 ∷ a_type 0x101 79 84 5 1 1 ∷ []) ∷ fields (value_field ∷ []) ∷ [], fault kinds.ListOrder 0x4CC) ∷
    -- Before generic parameters.
    (event_maps (a_map 1 2 ∷ []) ∷ generics (generic 0 2 ∷ []) ∷ [], fault kinds.ListOrder 0x4B6) ∷
    -- The fields of the first type begin at 0: with a field; with none; two such types, so that the first has no field.
    (refs (enum_ref ∷ []) ∷ types (a_type 0x4101 79 84 5 0 1 ∷ []) ∷ fields (value_field ∷ []) ∷ [], fault kinds.RowRange 0x4C8) ∷
    (refs (enum_ref ∷ []) ∷ types (a_type 0x4101 79 84 5 0 1 ∷ []) ∷ [], fault kinds.RowRange 0x4C4) ∷
    (refs (enum_ref ∷ []) ∷ types (a_type 0x4101 79 84 5 0 1 ∷ a_type 0x4101 97 84 5 0 1 ∷ []) ∷ fields (value_field ∷ []) ∷ [], fault kinds.RowRange 0x4D6) ∷
    []

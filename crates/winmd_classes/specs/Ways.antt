-- How a class is made, and the class.
use Rattle.std.specs.Prelude.{ℕ, bytes_eq, codes, Bool, List, [], ◌∷◌, Option, Result, Ok, if◌then◌else◌}
use Rattle.md_schema.specs.declared.faults.ImageKind.TheVariants.{BadShape}
use Rattle.winmd_rows.specs.Faults.{Fault, fault, ◌>>=◌, each}
use Rattle.winmd_lines.specs.Cells.{Tables, bytes_in}
use Rattle.winmd_lines.specs.Orders.{set_by}
use Rattle.winmd_sets.specs.Attributes.{Attribute, of_word, type_name_of}
use Rattle.winmd_sets.specs.Blobs.{method_of}
use Rattle.winmd_sets.specs.Classes.{Making, Direct, Through, is_direct, making_of, names_in_order, throughs}
use Rattle.wr_base.specs.Trees.{UseTree, text_of_tree, ParamTree, DeclTree, class}

-- a factory, by the name that an attribute says
abbrev pub through_in : Tables → Attribute → Result Making Fault
through_in t attribute = type_name_of t attribute >>= λ name. Ok (Through name)

-- what an Activatable says whose constructor's first parameter has this text; a fault stands at the constructor's signature
abbrev pub making_named : Tables → ℕ → Attribute → List ℕ → Result Making Fault
making_named t offset attribute text =
    if bytes_eq text (codes "UInt32") then Ok Direct
    else if bytes_eq text (codes "System.Type") then through_in t attribute
    else fault BadShape offset

abbrev pub making_at : Tables → ℕ → Attribute → List ParamTree → Result Making Fault
making_at t offset attribute [] = fault BadShape offset
making_at t offset attribute (p ∷ ps) = making_named t offset attribute (text_of_tree p.kind)

-- the same of the parameters that its signature spells
abbrev pub making_from : Tables → ℕ → Attribute → List ℕ → Result Making Fault
making_from t offset attribute blob = method_of t offset blob >>= λ sig. making_at t offset attribute sig.params

-- what an Activatable says, by where its constructor's signature stands
abbrev pub making_in : Tables → Attribute → Result Making Fault
making_in t attribute = bytes_in attribute.made.signature attribute.made.column >>= λ blob. making_from t attribute.made.offset attribute blob

-- whether a class is made without parameters; its factories and its statics, in the order of attributes
abbrev pub ways_in : Tables → List Attribute → Result (Bool × List (List ℕ) × List (List ℕ)) Fault
ways_in t attributes = do
  makings ← each (making_of t) (of_word (codes "Activatable") attributes)
  statics ← each (type_name_of t) (of_word (codes "Static") attributes)
  Ok (is_direct makings, throughs makings, statics)

-- a class that has these interfaces and is made in these ways; its lists in the order of texts
abbrev pub class_with : List ℕ → ℕ → Bool → Option UseTree × List UseTree → Bool × List (List ℕ) × List (List ℕ) → DeclTree
class_with full version fixed has ways = class full version fixed has.0 (set_by text_of_tree has.1) ways.0 (names_in_order ways.1) (names_in_order ways.2)

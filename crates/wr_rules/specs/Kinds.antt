-- What a name means in a set of declarations: the declared type of exactly this full name, else the found one.
use Rattle.std.specs.Prelude.{ℕ, ◌==◌, List, [], ◌∷◌, Option, Some, None, length, if◌then◌else◌}
use Rattle.std.specs.Option.{option_or, option_map, option_and_then}
use Rattle.wr_base.specs.declared.declaration.Declaration.{Declaration}
use Rattle.wr_base.specs.declared.declaration.Declaration.TheVariants.{Enum, Struct, Delegate, Interface, Class}
use Rattle.wr_base.specs.Declarations.{declared_as}
use Rattle.found_table.specs.Found.{FoundRow}
use Rattle.found_table.specs.Table.{builtin}
use Rattle.wr_base.specs.Trees.{UseTree, plain, value, reference, instance, list_of}

-- the five kinds of types
pub data Kind : Type 0 where
  enumeration : Kind
  structure : Kind
  delegate : Kind
  interface : Kind
  class : Kind

-- a declared type, or one that every set finds
pub data Meaning : Type 0 where
  declared : Declaration → Meaning
  found : FoundRow → Meaning

-- what a full name means, without regard to arguments
abbrev pub meaning_of : List Declaration → List ℕ → Option Meaning
meaning_of types name = option_or (option_map declared (declared_as types name)) (option_map found (builtin name))

-- how many arguments a type takes
abbrev pub arity_of : Meaning → ℕ
arity_of (declared d) = 0
arity_of (found (FoundRow.Struct name fields)) = 0
arity_of (found (FoundRow.Interface name arguments id members)) = arguments
arity_of (found (FoundRow.Delegate name arguments id params)) = arguments

-- the kind of a declaration
abbrev pub declared_kind : Declaration → Kind
declared_kind (Enum name version flags cases) = enumeration
declared_kind (Struct name version fields) = structure
declared_kind (Delegate name version id invoke) = delegate
declared_kind (Interface name version id owner requires_ members) = interface
declared_kind (Class name version fixed default has direct factories statics) = class

-- the kind of a declared or a found type
abbrev pub kind_of : Meaning → Kind
kind_of (declared d) = declared_kind d
kind_of (found (FoundRow.Struct name fields)) = structure
kind_of (found (FoundRow.Interface name arguments id members)) = interface
kind_of (found (FoundRow.Delegate name arguments id params)) = delegate

-- what a name means that is given so many arguments
abbrev pub applied : ℕ → Meaning → Option Meaning
applied count m = if count == arity_of m then Some m else None

-- what a full name means with so many arguments
abbrev pub named : List Declaration → List ℕ → ℕ → Option Meaning
named types name count = option_and_then (applied count) (meaning_of types name)

-- what a use means; a base means no type
abbrev pub used : List Declaration → UseTree → Option Meaning
used types (plain base) = None
used types (value name) = named types name 0
used types (reference name) = named types name 0
used types (instance name arguments) = named types name (length (list_of arguments))

-- the kind of the type that a use names
abbrev pub kind_used : List Declaration → UseTree → Option Kind
kind_used types u = option_map kind_of (used types u)

-- the name of a use that has one
abbrev pub use_name : UseTree → Option (List ℕ)
use_name (plain base) = None
use_name (value name) = Some name
use_name (reference name) = Some name
use_name (instance name arguments) = Some name

-- the one element, or none
abbrev pub option_list : {X : Type 0} → Option X → List X
option_list None = []
option_list (Some x) = x ∷ []

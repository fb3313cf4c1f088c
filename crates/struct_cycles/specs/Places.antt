-- Places of declarations in a set, and what fields hold as places.
use Rattle.std.specs.Prelude.{ℕ, suc, List, [], ◌∷◌, Option, Some, None, if◌then◌else◌}
use Rattle.std.specs.Option.{option_map, option_and_then}
use Rattle.std.specs.List.{flat_map}
use Rattle.std.specs.Str.{bytes_eq}
use Rattle.wr_base.specs.Declarations.{name_of}
use Rattle.wr_base.specs.Trees.{UseTree, plain, value, reference, instance, tree_of}
use Rattle.wr_base.specs.declared.declaration.Declaration.{Declaration}
use Rattle.wr_base.specs.declared.declaration.Field.{Field}
use Rattle.wr_rules.specs.Kinds.{option_list}
use Rattle.wr_rules.specs.Members.{fields_of}

-- the place of the declaration of this full name: of the first one, where there are several
abbrev pub place_in : List Declaration → List ℕ → Option ℕ
place_in [] name = None
place_in (d ∷ ds) name = if bytes_eq (name_of d) name then Some 0 else option_map suc (place_in ds name)

-- the full name of the type that a use names directly, not as an instance
abbrev pub direct_name : UseTree → Option (List ℕ)
direct_name (value name) = Some name
direct_name (reference name) = Some name
direct_name (plain base) = None
direct_name (instance name arguments) = None

-- the place of what a field holds, where that is declared
abbrev pub step_of : List Declaration → Field → List ℕ
step_of types field = option_list (option_and_then (place_in types) (direct_name (tree_of field.ty)))

-- the places of what a declaration's fields hold
abbrev pub held_by : List Declaration → Declaration → List ℕ
held_by types d = flat_map (step_of types) (fields_of d)

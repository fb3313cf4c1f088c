-- What a name means where it is used (MIDL 3.0 reference, Namespaces): the declared or found type with the longest namespace in front.
use Rattle.std.specs.Prelude.{◌==◌, ℕ, zero, suc, List, [], ◌∷◌, ◌++◌, Option, Some, None, length, take, if◌then◌else◌}
use Rattle.std.specs.Option.{option_or, option_map}
use Rattle.std.specs.Str.{bytes_eq}
use Rattle.wr_base.specs.Paths.{is_path}
use Rattle.found_table.specs.Found.{FoundRow}
use Rattle.found_table.specs.Table.{builtin}
use Rattle.midl_tree.specs.Trees.{DeclTree, enumeration, structure, delegate, interface, class}
use Rattle.midl_names.specs.declared.sort.Sort.{Sort}
use Rattle.midl_names.specs.declared.sort.Sort.TheVariants.{Value, Reference, Template}
use Rattle.midl_names.specs.declared.hit.Hit.{Hit}
use Rattle.midl_names.specs.Items.{Item, prefix, full_name}

-- the sort of a declared type
abbrev pub sort_of : DeclTree → Sort
sort_of (enumeration e) = Value
sort_of (structure s) = Value
sort_of (delegate d) = Reference
sort_of (interface i) = Reference
sort_of (class c) = Reference

-- a type without arguments, or a template that takes so many
abbrev pub taking : ℕ → Sort
taking count = if count == 0 then Reference else Template count

-- the sort of a found type
abbrev pub found_sort : FoundRow → Sort
found_sort (FoundRow.Struct name fields) = Value
found_sort (FoundRow.Interface name arguments id members) = taking arguments
found_sort (FoundRow.Delegate name arguments id params) = taking arguments

-- how many arguments a type takes
abbrev pub arity : Sort → ℕ
arity Value = 0
arity Reference = 0
arity (Template count) = count

-- the sort of the first item of exactly this full name
abbrev pub declared_sort : List Item → List ℕ → Option Sort
declared_sort [] name = None
declared_sort (i ∷ is) name = if bytes_eq (full_name i) name then Some (sort_of i.tree) else declared_sort is name

-- the type of this full name: a declared one before a found one
unfoldable pub named : (List ℕ → Option Sort) → List ℕ → Option Sort
named known name = option_or (known name) (option_map found_sort (builtin name))

-- a full name has two or more identifiers
unfoldable pub hit : (List ℕ → Option Sort) → List ℕ → Option Hit
hit known name = if is_path name then option_map (λ s. record { name = name; sort = s }) (named known name) else None

-- the first in the namespaces around, of which k parts are left: the whole of them first, and no namespace last
unfoldable pub look_from : (List ℕ → Option Sort) → List (List ℕ) → List ℕ → ℕ → Option Hit
look_from known space path zero = hit known path
look_from known space path (suc k) = option_or (hit known (prefix (take (suc k) space) ++ path)) (look_from known space path k)

-- a path P in a namespace A.B is the first of A.B.P, A.P and P that is declared or found
abbrev pub look_up : (List ℕ → Option Sort) → List (List ℕ) → List ℕ → Option Hit
look_up known space path = look_from known space path (length space)

-- Constructors of classes (MIDL 3.0 reference, Constructors).
use Rattle.std.specs.Prelude.{Bool, true, false, List, [], ◌∷◌, Option, Some, None, drop, if◌then◌else◌}
use Rattle.std.specs.List.{filter}
use Rattle.std.specs.Str.{bytes_eq}
use Rattle.ranked.specs.Entries.{Entry}
use Rattle.ranked.specs.First.{Among}
use Rattle.wr_base.specs.declared.code.Code.TheVariants.{ConstructorName, DoubleConstructor}
use Rattle.midl_tree.specs.Trees.{ParamTree, ClassMemberTree, member, constructor, DeclTree, enumeration, structure, delegate, interface, class}
use Rattle.midl_names.specs.Items.{Item, own_name}
use Rattle.midl_names.specs.Faults.{entry_at, Gives}

abbrev pub class_members : DeclTree → List ClassMemberTree
class_members (class c) = c.members
class_members (enumeration e) = []
class_members (structure s) = []
class_members (delegate d) = []
class_members (interface i) = []

abbrev pub is_empty : List ParamTree → Bool
is_empty [] = true
is_empty (p ∷ ps) = false

-- a constructor without parameters
abbrev pub is_plain : ClassMemberTree → Bool
is_plain (member fixed m) = false
is_plain (constructor name params) = is_empty params

abbrev pub misnamed : Item → ClassMemberTree → Option Entry
misnamed item (member fixed m) = None
misnamed item (constructor name params) = if bytes_eq name.text (own_name item.tree).text then None else Some (entry_at item name.offset ConstructorName name.text)

abbrev pub doubled : Item → ClassMemberTree → Option Entry
doubled item (member fixed m) = None
doubled item (constructor name params) = Some (entry_at item name.offset DoubleConstructor name.text)

-- a constructor that isn't named as its class
abbrev pub IsMisnamed : List Item → Entry → Type 0
IsMisnamed items = Among items (λ i. Among (class_members i.tree) (λ m. Gives (misnamed i m)))

-- each but the first of a class's constructors without parameters
abbrev pub IsDoubled : List Item → Entry → Type 0
IsDoubled items = Among items (λ i. Among (drop 1 (filter is_plain (class_members i.tree))) (λ m. Gives (doubled i m)))

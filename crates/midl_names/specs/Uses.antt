-- The uses of types, and what may be wrong with them.
use Rattle.std.specs.Prelude.{◌==◌, ◌+◌, ℕ, List, [], ◌∷◌, ◌++◌, Option, Some, None, if◌then◌else◌}
use Rattle.std.specs.List.{flat_map}
use Rattle.std.specs.Option.{option_or}
use Rattle.ranked.specs.Entries.{Entry}
use Rattle.ranked.specs.First.{Among}
use Rattle.wr_base.specs.declared.code.Code.TheVariants.{UnknownType, WrongArity}
use Rattle.midl_tree.specs.declared.terminal.Terminal.{Terminal}
use Rattle.midl_tree.specs.Trees.{TypeTree, base, named, TypeTrees, no_types, type_and, ParamTree, MemberTree, method, event, properties, property, ClassMemberTree, member, constructor, DeclTree, enumeration, structure, delegate, interface, class}
use Rattle.midl_names.specs.declared.sort.Sort.{Sort}
use Rattle.midl_names.specs.declared.hit.Hit.{Hit}
use Rattle.midl_names.specs.Items.{Item}
use Rattle.midl_names.specs.Lookup.{look_up, arity}
use Rattle.midl_names.specs.Faults.{entry_at, Gives}

-- a dotted name as it is written, its parts joined by dots alone
abbrev pub dotted : List Terminal → List ℕ
dotted [] = []
dotted (t ∷ ts) = t.text ++ flat_map (λ u. 46 ∷ u.text) ts

-- where a dotted name begins
abbrev pub first_offset : List Terminal → ℕ
first_offset [] = 0
first_offset (t ∷ ts) = t.offset

abbrev pub count_types : TypeTrees → ℕ
count_types no_types = 0
count_types (type_and t ts) = 1 + count_types ts

-- the named types of a use, at any depth of arguments
abbrev mutual
  pub uses_in : TypeTree → List TypeTree
  uses_in (base b) = []
  uses_in (named path arguments) = named path arguments ∷ uses_among arguments

  pub uses_among : TypeTrees → List TypeTree
  uses_among no_types = []
  uses_among (type_and t ts) = uses_in t ++ uses_among ts

abbrev pub result_uses : Option TypeTree → List TypeTree
result_uses None = []
result_uses (Some t) = uses_in t

abbrev pub param_uses : List ParamTree → List TypeTree
param_uses = flat_map (λ p. uses_in p.kind)

abbrev pub member_uses : MemberTree → List TypeTree
member_uses (method result name params) = result_uses result ++ param_uses params
member_uses (event kind name) = uses_in kind
member_uses (properties kind names) = uses_in kind
member_uses (property kind name put) = uses_in kind

abbrev pub class_member_uses : ClassMemberTree → List TypeTree
class_member_uses (member fixed m) = member_uses m
class_member_uses (constructor name params) = param_uses params

-- the named types in all uses of a declaration
abbrev pub uses_of : DeclTree → List TypeTree
uses_of (enumeration e) = []
uses_of (structure s) = flat_map (λ f. uses_in f.kind) s.fields
uses_of (delegate d) = result_uses d.result ++ param_uses d.params
uses_of (interface i) = flat_map uses_in i.required ++ flat_map member_uses i.members
uses_of (class c) = flat_map uses_in c.bases ++ flat_map class_member_uses c.members

-- a use that isn't found
abbrev pub unknown_at : Item → List Terminal → Option Hit → Option Entry
unknown_at item path None = Some (entry_at item (first_offset path) UnknownType (dotted path))
unknown_at item path (Some h) = None

-- a use that has another number of arguments than the type takes
abbrev pub arity_at : Item → List Terminal → ℕ → Option Hit → Option Entry
arity_at item path count None = None
arity_at item path count (Some h) = if count == arity h.sort then None else Some (entry_at item (first_offset path) WrongArity h.name)

-- what is wrong with a use of this path with so many arguments, by what look-up finds
abbrev pub path_fault : Item → List Terminal → ℕ → Option Hit → Option Entry
path_fault item path count found = option_or (unknown_at item path found) (arity_at item path count found)

abbrev pub unknown_use : (List ℕ → Option Sort) → Item → TypeTree → Option Entry
unknown_use known item (base b) = None
unknown_use known item (named path arguments) = unknown_at item path (look_up known item.space (dotted path))

abbrev pub wrong_use : (List ℕ → Option Sort) → Item → TypeTree → Option Entry
wrong_use known item (base b) = None
wrong_use known item (named path arguments) = arity_at item path (count_types arguments) (look_up known item.space (dotted path))

-- what is wrong with a use, of which at most one of the two is
abbrev pub use_fault : (List ℕ → Option Sort) → Item → TypeTree → Option Entry
use_fault known item (base b) = None
use_fault known item (named path arguments) = path_fault item path (count_types arguments) (look_up known item.space (dotted path))

-- a use that look-up doesn't find stands at its first token
abbrev pub IsUnknown : (List ℕ → Option Sort) → List Item → Entry → Type 0
IsUnknown known items = Among items (λ i. Among (uses_of i.tree) (λ u. Gives (unknown_use known i u)))

-- a use with another number of arguments than its type takes stands at its first token
abbrev pub IsMiscounted : (List ℕ → Option Sort) → List Item → Entry → Type 0
IsMiscounted known items = Among items (λ i. Among (uses_of i.tree) (λ u. Gives (wrong_use known i u)))

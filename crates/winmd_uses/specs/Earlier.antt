-- Methods and the names of those before them; what the members of an interface use.
use Rattle.std.specs.Prelude.{ℕ, ◌||◌, not, bytes_eq, Bool, false, List, [], ◌∷◌, ◌++◌, map, codes, String, string_bytes}
use Rattle.std.specs.declared.alloc.Global.{Global}
use Rattle.std.specs.BTreeSet.{BTreeSet}
use Rattle.std.specs.List.{list_any}
use Rattle.md_schema.specs.declared.table.Table.TheVariants as tables
use Rattle.wr_base.specs.Trees.{UseTree, SignatureTree, MemberTree, method, property, event}
use Rattle.winmd_lines.specs.Lines.{Line, Type_}
use Rattle.winmd_lines.specs.Makers.{Maker}
use Rattle.winmd_lines.specs.UsedNames.{names_in_use}
use Rattle.winmd_sets.specs.Members.{when, attribute, member_lines, signature_lines, method_names}
use Rattle.winmd_sets.specs.Values.{words_argument}
use Rattle.winmd_uses.specs.Takes.{Says, both, cell_says, names_alone}

-- the texts of a set
abbrev pub texts_in : BTreeSet (String Global) → List (List ℕ)
texts_in s = map string_bytes s.keys

-- the names of methods behind others
abbrev pub names_after : List (List ℕ) → List MemberTree → List (List ℕ)
names_after earlier [] = earlier
names_after earlier (m ∷ ms) = names_after (method_names m ++ earlier) ms

-- a method, where it is known whether its name was there before
abbrev pub method_lines_if : Bool → List ℕ → List ℕ → SignatureTree → List Line
method_lines_if repeated name abi sig =
    signature_lines 0x05C6 0 name sig
    ++ when (not (bytes_eq abi name) || repeated) (attribute tables.MethodDef Maker.Overload (words_argument abi) ∷ [])

-- a member is a method of one of these names
abbrev pub is_repeat : List (List ℕ) → MemberTree → Bool
is_repeat earlier (method name abi sig) = list_any (bytes_eq name) earlier
is_repeat earlier (property name type_ put) = false
is_repeat earlier (event name type_) = false

-- a member, where it is known whether it is a method whose name was there before
abbrev pub member_lines_if : Bool → MemberTree → List Line
member_lines_if repeated (method name abi sig) = method_lines_if repeated name abi sig
member_lines_if repeated (property name type_ put) = member_lines [] (property name type_ put)
member_lines_if repeated (event name type_) = member_lines [] (event name type_)

-- the type of an event, for its own row and for its accessors, and that of tokens
abbrev pub event_says : UseTree → Says
event_says u = both (cell_says (Type_ u)) (both (names_alone (names_in_use u)) (names_alone (codes "Windows.Foundation.EventRegistrationToken" ∷ [])))

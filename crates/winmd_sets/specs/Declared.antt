-- The rows of declarations, one case for each kind, in the order in which they are written.
use Rattle.std.specs.Prelude.{ℕ, Bool, false, List, [], ◌∷◌, ◌++◌, map, codes, Option, Some, None, if◌then◌else◌}
use Rattle.std.specs.List.{flat_map}
use Rattle.std.specs.Option.{option_map_or}
use Rattle.md_schema.specs.declared.table.Table.TheVariants as tables
use Rattle.wr_base.specs.Parts.{behind_last, before_last}
use Rattle.winmd_lines.specs.Lines.{Drawn, Number, Words, Bytes, Guid, To, Last, Next, Type_, Line, line}
use Rattle.winmd_lines.specs.Makers.{Maker}
use Rattle.winmd_sets.specs.Members.{when, attribute, method_lines, signature_lines, field_line, element, case_lines, struct_field, map_lines, members_lines}
use Rattle.wr_base.specs.Trees.{UseTree, reference, same_use, DeclTree, enum, struct, delegate, interface, class, name_of}
use Rattle.winmd_sets.specs.Values.{number_argument, type_argument, id_argument}

-- flags, name, namespace and base of a type whose fields and methods come next (II.22.37)
abbrev pub type_line : ℕ → List ℕ → List ℕ → Drawn → Line
type_line flags space name base = line tables.TypeDef (Number flags ∷ Words name ∷ Words space ∷ base ∷ Next tables.Field ∷ Next tables.MethodDef ∷ [])

abbrev pub typed : ℕ → List ℕ → Drawn → Line
typed flags full base = type_line flags (before_last 46 full) (behind_last 46 full) base

abbrev pub system : List ℕ → Drawn
system name = Type_ (reference (codes "System." ++ name))

abbrev pub version_of_type : ℕ → Line
version_of_type version = attribute tables.TypeDef Maker.Version (number_argument version)

abbrev pub id_of_type : ℕ → Line
id_of_type id = attribute tables.TypeDef Maker.Guid (id_argument id)

abbrev pub owner_of_type : Option (List ℕ) → List Line
owner_of_type None = []
owner_of_type (Some owner) = attribute tables.TypeDef Maker.ExclusiveTo (type_argument owner) ∷ []

-- an attribute with a type's name and the version
abbrev pub named_attribute : Maker → ℕ → List ℕ → Line
named_attribute maker version name = attribute tables.TypeDef maker (type_argument name ++ number_argument version)

-- an interface of the last type (II.22.23)
abbrev pub interface_line : UseTree → Line
interface_line use_ = line tables.InterfaceImpl (Last tables.TypeDef ∷ Type_ use_ ∷ [])

abbrev pub is_default : Option UseTree → UseTree → Bool
is_default None use_ = false
is_default (Some default) use_ = same_use default use_

abbrev pub class_interface : Option UseTree → UseTree → List Line
class_interface default use_ = interface_line use_ ∷ when (is_default default use_) (attribute tables.InterfaceImpl Maker.Default [] ∷ [])

-- ---- a declaration: its own row, and the rows behind it

abbrev pub type_flags : DeclTree → ℕ
type_flags (enum name version flags cases) = 0x4101
type_flags (struct name version fields) = 0x4109
type_flags (delegate name version id invoke) = 0x4101
type_flags (interface name version id owner requires_ members) = option_map_or (λ owner. 0x40A0) owner 0x40A1
type_flags (class name version fixed default has direct factories statics) = if fixed then 0x4181 else 0x4101

abbrev pub type_base : DeclTree → Drawn
type_base (enum name version flags cases) = system (codes "Enum")
type_base (struct name version fields) = system (codes "ValueType")
type_base (delegate name version id invoke) = system (codes "MulticastDelegate")
type_base (interface name version id owner requires_ members) = To tables.TypeDef 0
type_base (class name version fixed default has direct factories statics) = system (codes "Object")

abbrev pub body_lines : DeclTree → List Line
body_lines (enum name version flags cases) =
    when flags (attribute tables.TypeDef Maker.Flags [] ∷ [])
    ++ (version_of_type version
    ∷ field_line 0x0601 (codes "value__") (Bytes (0x06 ∷ element flags ∷ []))
    ∷ flat_map (case_lines name flags) cases)
body_lines (struct name version fields) = version_of_type version ∷ map struct_field fields
body_lines (delegate name version id invoke) =
    id_of_type id
    ∷ version_of_type version
    ∷ (method_lines 0x1881 3 (codes ".ctor") (Bytes (0x20 ∷ 2 ∷ 0x01 ∷ 0x1C ∷ 0x18 ∷ [])) []
    ++ signature_lines 0x09C6 3 (codes "Invoke") invoke)
body_lines (interface name version id owner requires_ members) =
    id_of_type id
    ∷ version_of_type version
    ∷ (owner_of_type owner ++ (map interface_line requires_ ++ (map_lines members ++ members_lines [] members)))
body_lines (class name version fixed default has direct factories statics) =
    version_of_type version
    ∷ (flat_map (class_interface default) has
    ++ (when direct (attribute tables.TypeDef Maker.Activatable (number_argument version) ∷ [])
    ++ (map (named_attribute Maker.Factory version) factories
    ++ map (named_attribute Maker.Static version) statics)))

abbrev pub own_line : DeclTree → Line
own_line d = typed (type_flags d) (name_of d) (type_base d)

-- The rows of a declaration.
abbrev pub lines_of : DeclTree → List Line
lines_of d = own_line d ∷ body_lines d

-- the version of an assembly in four numbers: any version
abbrev pub any_version : List Drawn → List Drawn
any_version cells = Number 255 ∷ Number 255 ∷ Number 255 ∷ Number 255 ∷ cells

-- the rows that every image begins with
abbrev pub first_lines : List Line
first_lines =
    line tables.Module (Number 0 ∷ Words (codes "types.winmd") ∷ Guid 1 ∷ Guid 0 ∷ Guid 0 ∷ [])
    ∷ line tables.Assembly (Number 0x8004 ∷ any_version (Number 0x200 ∷ Bytes [] ∷ Words (codes "types") ∷ Words [] ∷ []))
    ∷ line tables.AssemblyRef (any_version (Number 0 ∷ Bytes (0xB7 ∷ 0x7A ∷ 0x5C ∷ 0x56 ∷ 0x19 ∷ 0x34 ∷ 0xE0 ∷ 0x89 ∷ []) ∷ Words (codes "mscorlib") ∷ Words [] ∷ Bytes [] ∷ []))
    ∷ line tables.AssemblyRef (any_version (Number 0x200 ∷ Bytes [] ∷ Words (codes "Windows.Foundation.FoundationContract") ∷ Words [] ∷ Bytes [] ∷ []))
    ∷ type_line 0 [] (codes "<Module>") (To tables.TypeDef 0)
    ∷ []

-- The rows of a type's parts: attributes, methods, cases, fields and members (ECMA-335 II.22).
use Rattle.std.specs.Prelude.{ℕ, suc, ◌||◌, not, Bool, true, false, List, [], ◌∷◌, ◌++◌, codes, Some, None, if◌then◌else◌}
use Rattle.std.specs.Str.{bytes_eq}
use Rattle.std.specs.List.{list_any}
use Rattle.md_bytes.specs.Bytes.{le}
use Rattle.md_schema.specs.declared.table.Table.{Table}
use Rattle.md_schema.specs.declared.table.Table.TheVariants as tables
use Rattle.wr_base.specs.declared.declaration.Case.{Case}
use Rattle.winmd_rows.specs.Bits.{bits_of_int}
use Rattle.winmd_lines.specs.Lines.{Drawn, Number, Words, Bytes, Last, Next, Type_, MadeBy, OfField, OfProperty, OfMethod, Line, line}
use Rattle.winmd_lines.specs.Makers.{Maker}
use Rattle.wr_base.specs.Trees.{UseTree, value, ParamTree, SignatureTree, FieldTree, MemberTree, method, property, event}
use Rattle.winmd_sets.specs.Values.{words_argument}
use Rattle.sig_blobs.specs.Attributes.{value_bytes}
use Rattle.sig_blobs.specs.declared.argument.Argument.{Argument}

abbrev pub when : Bool → List Line → List Line
when test lines = if test then lines else []

-- an attribute of the last row of a table
abbrev pub attribute : Table → Maker → List Argument → Line
attribute table maker arguments = line tables.CustomAttribute (Last table ∷ MadeBy maker ∷ Bytes (value_bytes arguments) ∷ [])

-- ---- methods

-- parameters from this sequence number on: flags 1 in, 2 out
abbrev pub param_lines : ℕ → List ParamTree → List Line
param_lines n [] = []
param_lines n (p ∷ ps) = line tables.Param (Number (if p.out then 2 else 1) ∷ Number n ∷ Words p.name ∷ []) ∷ param_lines (suc n) ps

-- a method without code, and its parameters
abbrev pub method_lines : ℕ → ℕ → List ℕ → Drawn → List ParamTree → List Line
method_lines flags impl_flags name signature params =
    line tables.MethodDef (Number 0 ∷ Number impl_flags ∷ Number flags ∷ Words name ∷ signature ∷ Next tables.Param ∷ []) ∷ param_lines 1 params

-- a method with this signature
abbrev pub signature_lines : ℕ → ℕ → List ℕ → SignatureTree → List Line
signature_lines flags impl_flags name sig = method_lines flags impl_flags name (OfMethod sig) sig.params

-- ---- fields

abbrev pub field_line : ℕ → List ℕ → Drawn → Line
field_line flags name signature = line tables.Field (Number flags ∷ Words name ∷ signature ∷ [])

-- I4, or U4 with flags (II.23.1.16)
abbrev pub element : Bool → ℕ
element flags = if flags then 9 else 8

-- a case of an enum of this name: a field of the enum's own type, and its constant
abbrev pub case_lines : List ℕ → Bool → Case → List Line
case_lines enum flags case_ =
    field_line 0x8056 case_.name (OfField (value enum))
    ∷ line tables.Constant (Number (element flags) ∷ Number 0 ∷ Last tables.Field ∷ Bytes (le 4 (bits_of_int case_.value)) ∷ [])
    ∷ []

abbrev pub struct_field : FieldTree → Line
struct_field field = field_line 0x0006 field.name (OfField field.kind)

-- ---- members of an interface

abbrev pub param : List ℕ → UseTree → ParamTree
param name type_ = record { name = name; out = false; kind = type_ }

abbrev pub token_type : UseTree
token_type = value (codes "Windows.Foundation.EventRegistrationToken")

abbrev pub getter : UseTree → SignatureTree
getter type_ = record { params = []; result = Some type_ }

abbrev pub setter : UseTree → SignatureTree
setter type_ = record { params = param (codes "value") type_ ∷ []; result = None }

abbrev pub adder : UseTree → SignatureTree
adder type_ = record { params = param (codes "handler") type_ ∷ []; result = Some token_type }

abbrev pub remover : SignatureTree
remover = record { params = param (codes "token") token_type ∷ []; result = None }

-- an accessor: a method with this meaning for the last row of Property or Event (II.22.28)
abbrev pub accessor : Table → ℕ → List ℕ → SignatureTree → List Line
accessor table meaning name sig =
    signature_lines 0x0DC6 0 name sig ++ line tables.MethodSemantics (Number meaning ∷ Last tables.MethodDef ∷ Last table ∷ []) ∷ []

-- a member of the last type; `earlier` are the names of the methods before it
abbrev pub member_lines : List (List ℕ) → MemberTree → List Line
member_lines earlier (method name abi sig) =
    signature_lines 0x05C6 0 name sig
    ++ when (not (bytes_eq abi name) || list_any (bytes_eq name) earlier) (attribute tables.MethodDef Maker.Overload (words_argument abi) ∷ [])
member_lines earlier (property name type_ put) =
    line tables.Property (Number 0 ∷ Words name ∷ OfProperty type_ ∷ [])
    ∷ accessor tables.Property 2 (codes "get_" ++ name) (getter type_)
    ++ when put (accessor tables.Property 1 (codes "put_" ++ name) (setter type_))
member_lines earlier (event name type_) =
    line tables.Event (Number 0 ∷ Words name ∷ Type_ type_ ∷ [])
    ∷ accessor tables.Event 8 (codes "add_" ++ name) (adder type_)
    ++ accessor tables.Event 0x10 (codes "remove_" ++ name) remover

-- the name that a method takes; properties and events take none
abbrev pub method_names : MemberTree → List (List ℕ)
method_names (method name abi sig) = name ∷ []
method_names _ = []

abbrev pub members_lines : List (List ℕ) → List MemberTree → List Line
members_lines earlier [] = []
members_lines earlier (m ∷ ms) = member_lines earlier m ++ members_lines (method_names m ++ earlier) ms

abbrev pub is_property : MemberTree → Bool
is_property (property name type_ put) = true
is_property _ = false

abbrev pub is_event : MemberTree → Bool
is_event (event name type_) = true
is_event _ = false

-- where the last type's properties, or events, begin (II.22.35, II.22.12)
abbrev pub map_line : Table → Table → Line
map_line table list = line table (Last tables.TypeDef ∷ Next list ∷ [])

abbrev pub map_lines : List MemberTree → List Line
map_lines members =
    when (list_any is_property members) (map_line tables.PropertyMap tables.Property ∷ [])
    ++ when (list_any is_event members) (map_line tables.EventMap tables.Event ∷ [])

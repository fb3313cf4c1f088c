-- Type uses and declarations as trees over which definitions recurse.
use Rattle.std.specs.Prelude.{ℕ, suc, ◌==◌, ◌&&◌, bytes_eq, List, [], ◌∷◌, ◌++◌, map, Bool, true, false, Option, option_map}
use Rattle.std.specs.List.{join_with_byte}
use Rattle.wr_base.specs.declared.type_use.Base.{Base}
use Rattle.wr_base.specs.declared.type_use.Base.TheVariants.{Boolean, Char, U8, I16, U16, I32, U32, I64, U64, Text, Guid, Object}
use Rattle.wr_base.specs.declared.type_use.TypeUse.{TypeUse, fold-TypeUse}
use Rattle.wr_base.specs.declared.type_use.TypeUse.TheOpen.{TypeUse-F}
use Rattle.wr_base.specs.declared.declaration.Param.{Param}
use Rattle.wr_base.specs.declared.declaration.Signature.{Signature}
use Rattle.wr_base.specs.declared.declaration.Case.{Case}
use Rattle.wr_base.specs.declared.declaration.Field.{Field}
use Rattle.wr_base.specs.declared.declaration.Member.{Member}
use Rattle.wr_base.specs.declared.declaration.Member.TheVariants as members
use Rattle.wr_base.specs.declared.declaration.Declaration.{Declaration}
use Rattle.wr_base.specs.declared.declaration.Declaration.TheVariants as declarations
use Rattle.wr_base.specs.Uses.{word_of}

-- ---- type uses

-- a fundamental type, an enum or struct, an interface, class or delegate, or an instance with its arguments
mutual
  pub data UseTree : Type 0 where
    plain : Base → UseTree
    value : List ℕ → UseTree
    reference : List ℕ → UseTree
    instance : List ℕ → UseTrees → UseTree

  pub data UseTrees : Type 0 where
    no_uses : UseTrees
    use_and : UseTree → UseTrees → UseTrees

-- the same trees as a list of their own
abbrev pub uses_of : List UseTree → UseTrees
uses_of [] = no_uses
uses_of (u ∷ us) = use_and u (uses_of us)

-- and as a list
abbrev pub list_of : UseTrees → List UseTree
list_of no_uses = []
list_of (use_and u us) = u ∷ list_of us

abbrev pub count_of : UseTrees → ℕ
count_of no_uses = 0
count_of (use_and u us) = suc (count_of us)

-- one level, where the arguments are trees already
abbrev pub tree_at : TypeUse-F UseTree → UseTree
tree_at (TypeUse-F.Plain base) = plain base
tree_at (TypeUse-F.Value name) = value name
tree_at (TypeUse-F.Reference name) = reference name
tree_at (TypeUse-F.Inst name arguments) = instance name (uses_of arguments)

-- the tree of a use
abbrev pub tree_of : TypeUse → UseTree
tree_of use_ = fold-TypeUse UseTree tree_at use_

-- a use and all uses within it, from the left
abbrev mutual
  pub within : UseTree → List UseTree
  within (plain base) = plain base ∷ []
  within (value name) = value name ∷ []
  within (reference name) = reference name ∷ []
  within (instance name arguments) = instance name arguments ∷ among arguments

  pub among : UseTrees → List UseTree
  among no_uses = []
  among (use_and u us) = within u ++ among us

-- the word, the full name, or `Name<a,b>`
abbrev mutual
  pub text_of_tree : UseTree → List ℕ
  text_of_tree (plain base) = word_of base
  text_of_tree (value name) = name
  text_of_tree (reference name) = name
  text_of_tree (instance name arguments) = name ++ 60 ∷ join_with_byte 44 (texts_of_trees arguments) ++ 62 ∷ []

  pub texts_of_trees : UseTrees → List (List ℕ)
  texts_of_trees no_uses = []
  texts_of_trees (use_and u us) = text_of_tree u ∷ texts_of_trees us

-- the place of a fundamental type among them
abbrev pub base_number : Base → ℕ
base_number Boolean = 0
base_number Char = 1
base_number U8 = 2
base_number I16 = 3
base_number U16 = 4
base_number I32 = 5
base_number U32 = 6
base_number I64 = 7
base_number U64 = 8
base_number Text = 9
base_number Guid = 10
base_number Object = 11

-- the two are one use; equal texts aren't enough, since an argument may be a value in one and a reference in the other
abbrev mutual
  pub same_use : UseTree → UseTree → Bool
  same_use (plain a) (plain b) = base_number a == base_number b
  same_use (value a) (value b) = bytes_eq a b
  same_use (reference a) (reference b) = bytes_eq a b
  same_use (instance a us) (instance b vs) = bytes_eq a b && same_uses us vs
  same_use _ _ = false

  pub same_uses : UseTrees → UseTrees → Bool
  same_uses no_uses no_uses = true
  same_uses (use_and u us) (use_and v vs) = same_use u v && same_uses us vs
  same_uses _ _ = false

-- ---- declarations of such uses

pub record ParamTree : Type 0 where
  pub name : List ℕ
  pub out : Bool
  pub kind : UseTree

pub record SignatureTree : Type 0 where
  pub params : List ParamTree
  pub result : Option UseTree

pub record FieldTree : Type 0 where
  pub name : List ℕ
  pub kind : UseTree

-- name, ABI name and signature; name, type and whether it is put; name and type
pub data MemberTree : Type 0 where
  method : List ℕ → List ℕ → SignatureTree → MemberTree
  property : List ℕ → UseTree → Bool → MemberTree
  event : List ℕ → UseTree → MemberTree

-- as the variants of Declaration, in the order of their fields
pub data DeclTree : Type 0 where
  enum : List ℕ → ℕ → Bool → List Case → DeclTree
  struct : List ℕ → ℕ → List FieldTree → DeclTree
  delegate : List ℕ → ℕ → ℕ → SignatureTree → DeclTree
  interface : List ℕ → ℕ → ℕ → Option (List ℕ) → List UseTree → List MemberTree → DeclTree
  class : List ℕ → ℕ → Bool → Option UseTree → List UseTree → Bool → List (List ℕ) → List (List ℕ) → DeclTree

-- the full name
abbrev pub name_of : DeclTree → List ℕ
name_of (enum name version flags cases) = name
name_of (struct name version fields) = name
name_of (delegate name version id invoke) = name
name_of (interface name version id owner requires_ members) = name
name_of (class name version fixed default has direct factories statics) = name

-- ---- the tree of a declaration

abbrev pub param_tree : Param → ParamTree
param_tree param = record { name = param.name; out = param.out; kind = tree_of param.ty }

abbrev pub signature_tree : Signature → SignatureTree
signature_tree sig = record { params = map param_tree sig.params; result = option_map tree_of sig.result }

abbrev pub field_tree : Field → FieldTree
field_tree field = record { name = field.name; kind = tree_of field.ty }

abbrev pub member_tree : Member → MemberTree
member_tree (members.Method name abi sig) = method name abi (signature_tree sig)
member_tree (members.Property name type_ put) = property name (tree_of type_) put
member_tree (members.Event name type_) = event name (tree_of type_)

abbrev pub decl_tree : Declaration → DeclTree
decl_tree (declarations.Enum name version flags cases) = enum name version flags cases
decl_tree (declarations.Struct name version fields) = struct name version (map field_tree fields)
decl_tree (declarations.Delegate name version id invoke) = delegate name version id (signature_tree invoke)
decl_tree (declarations.Interface name version id owner requires_ members) = interface name version id owner (map tree_of requires_) (map member_tree members)
decl_tree (declarations.Class name version fixed default has direct factories statics) =
    class name version fixed (option_map tree_of default) (map tree_of has) direct factories statics

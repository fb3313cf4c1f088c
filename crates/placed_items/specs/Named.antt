-- The names that stand in a set of items (MIDL 3.0 reference, Identifiers).
use Rattle.std.specs.Prelude.{◌≤◌, ℕ, List, [], ◌∷◌, ◌++◌, Option, Some, None, map, length, IsTrue}
use Rattle.std.specs.List.{All, flat_map}
use Rattle.wr_base.specs.Paths.{is_identifier, is_path}
use Rattle.wr_base.specs.Trees.{UseTree, plain, value, reference, instance, UseTrees, no_uses, use_and, tree_of}
use Rattle.wr_base.specs.declared.type_use.TypeUse.{TypeUse}
use Rattle.wr_base.specs.declared.declaration.Case.{Case}
use Rattle.wr_base.specs.declared.declaration.Field.{Field}
use Rattle.wr_base.specs.declared.declaration.Param.{Param}
use Rattle.wr_base.specs.declared.declaration.Signature.{Signature}
use Rattle.wr_base.specs.declared.declaration.Member.{Member}
use Rattle.wr_base.specs.declared.declaration.Member.TheVariants.{Method, Property, Event}
use Rattle.wr_base.specs.declared.declaration.Declaration.{Declaration}
use Rattle.wr_base.specs.declared.declaration.Declaration.TheVariants as decls
use Rattle.placed_items.specs.declared.placed.WrittenClass.{WrittenClass}
use Rattle.placed_items.specs.declared.placed.Written.{Written}
use Rattle.placed_items.specs.declared.placed.Written.TheVariants.{Done, Class}
use Rattle.placed_items.specs.declared.placed.PlacedItem.{PlacedItem}
use Rattle.placed_items.specs.Items.{written_name}

-- an identifier of at most 255 bytes
pub record IsName (text : List ℕ) : Type 0 where
  pub identifier : IsTrue (is_identifier text)
  pub short : length text ≤ 255

-- the ABI name of a method: an identifier of at most 511 bytes
pub record IsAbiName (text : List ℕ) : Type 0 where
  pub identifier : IsTrue (is_identifier text)
  pub short : length text ≤ 511

-- each parameter has a name
abbrev pub HasNamedParams : Signature → Type 0
HasNamedParams s = All (λ (p : Param). IsName p.name) s.params

-- a method, with its ABI name and its parameters
pub record IsNamedMethod (name abi : List ℕ) (sig : Signature) : Type 0 where
  pub own : IsName name
  pub abi_own : IsAbiName abi
  pub params : HasNamedParams sig

abbrev pub IsNamedMember : Member → Type 0
IsNamedMember (Method name abi sig) = IsNamedMethod name abi sig
IsNamedMember (Property name ty put) = IsName name
IsNamedMember (Event name ty) = IsName name

-- a class's members, statics and constructors
pub record IsNamedClass (c : WrittenClass) : Type 0 where
  pub members : All IsNamedMember c.members
  pub statics : All IsNamedMember c.statics
  pub constructors : All HasNamedParams c.constructors

-- the parts of a declaration that is written as it is: cases, fields, parameters or members
abbrev pub IsNamedDeclaration : Declaration → Type 0
IsNamedDeclaration (decls.Enum name version flags cases) = All (λ (c : Case). IsName c.name) cases
IsNamedDeclaration (decls.Struct name version fields) = All (λ (f : Field). IsName f.name) fields
IsNamedDeclaration (decls.Delegate name version id invoke) = HasNamedParams invoke
IsNamedDeclaration (decls.Interface name version id owner requires_ members) = All IsNamedMember members
IsNamedDeclaration (decls.Class name version fixed default has direct factories statics) = Unit {0}

abbrev pub HasNamedParts : Written → Type 0
HasNamedParts (Done d) = IsNamedDeclaration d
HasNamedParts (Class c) = IsNamedClass c

-- each part of each item has a name
abbrev pub AreNamed : List PlacedItem → Type 0
AreNamed = All (λ (i : PlacedItem). HasNamedParts i.item)

-- ---- full names

-- the full names in a use, at any depth, are identifiers joined by dots
abbrev mutual
  pub HasPaths : UseTree → Type 0
  HasPaths (plain base) = Unit {0}
  HasPaths (value name) = IsTrue (is_path name)
  HasPaths (reference name) = IsTrue (is_path name)
  HasPaths (instance name arguments) = IsTrue (is_path name) × HavePaths arguments

  pub HavePaths : UseTrees → Type 0
  HavePaths no_uses = Unit {0}
  HavePaths (use_and u us) = HasPaths u × HavePaths us

abbrev pub result_uses : Option TypeUse → List TypeUse
result_uses None = []
result_uses (Some ty) = ty ∷ []

-- the uses in a signature: of its parameters, and of its result
abbrev pub signature_uses : Signature → List TypeUse
signature_uses s = map (λ (p : Param). p.ty) s.params ++ result_uses s.result

abbrev pub member_uses : Member → List TypeUse
member_uses (Method name abi sig) = signature_uses sig
member_uses (Property name ty put) = ty ∷ []
member_uses (Event name ty) = ty ∷ []

abbrev pub class_uses : WrittenClass → List TypeUse
class_uses c = c.listed ++ flat_map signature_uses c.constructors ++ flat_map member_uses c.members ++ flat_map member_uses c.statics

abbrev pub declaration_uses : Declaration → List TypeUse
declaration_uses (decls.Enum name version flags cases) = []
declaration_uses (decls.Struct name version fields) = map (λ (f : Field). f.ty) fields
declaration_uses (decls.Delegate name version id invoke) = signature_uses invoke
declaration_uses (decls.Interface name version id owner requires_ members) = requires_ ++ flat_map member_uses members
declaration_uses (decls.Class name version fixed default has direct factories statics) = has

-- the uses of types that are written in an item
abbrev pub written_uses : Written → List TypeUse
written_uses (Done d) = declaration_uses d
written_uses (Class c) = class_uses c

-- an item's full name and those in its uses are identifiers joined by dots
pub record IsPathed (i : PlacedItem) : Type 0 where
  pub own : IsTrue (is_path (written_name i.item))
  pub uses : All (λ u. HasPaths (tree_of u)) (written_uses i.item)

abbrev pub ArePathed : List PlacedItem → Type 0
ArePathed = All IsPathed

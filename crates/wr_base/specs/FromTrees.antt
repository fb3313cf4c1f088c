-- Type uses and declarations, from their trees.
use Rattle.std.specs.Prelude.{List, [], ◌∷◌, map, option_map}
use Rattle.wr_base.specs.declared.type_use.TypeUse.{TypeUse}
use Rattle.wr_base.specs.declared.type_use.TypeUse.TheViews.{Inst}
use Rattle.wr_base.specs.declared.type_use.TypeUse.TheVariants.{Plain, Value, Reference}
use Rattle.wr_base.specs.declared.declaration.Param.{Param}
use Rattle.wr_base.specs.declared.declaration.Signature.{Signature}
use Rattle.wr_base.specs.declared.declaration.Field.{Field}
use Rattle.wr_base.specs.declared.declaration.Member.{Member}
use Rattle.wr_base.specs.declared.declaration.Member.TheVariants as members
use Rattle.wr_base.specs.declared.declaration.Declaration.{Declaration}
use Rattle.wr_base.specs.declared.declaration.Declaration.TheVariants as declarations
use Rattle.wr_base.specs.Trees.{UseTree, plain, value, reference, instance, UseTrees, no_uses, use_and, ParamTree, SignatureTree, FieldTree, MemberTree, method, property, event, DeclTree, enum, struct, delegate, interface, class}

-- the use of a tree
abbrev mutual
  pub use_of_tree : UseTree → TypeUse
  use_of_tree (plain base) = Plain base
  use_of_tree (value name) = Value name
  use_of_tree (reference name) = Reference name
  use_of_tree (instance name arguments) = Inst name (uses_of_trees arguments)

  pub uses_of_trees : UseTrees → List TypeUse
  uses_of_trees no_uses = []
  uses_of_trees (use_and u us) = use_of_tree u ∷ uses_of_trees us

abbrev pub param_of_tree : ParamTree → Param
param_of_tree param = record { name = param.name; out = param.out; ty = use_of_tree param.kind }

abbrev pub signature_of_tree : SignatureTree → Signature
signature_of_tree sig = record { params = map param_of_tree sig.params; result = option_map use_of_tree sig.result }

abbrev pub field_of_tree : FieldTree → Field
field_of_tree field = record { name = field.name; ty = use_of_tree field.kind }

abbrev pub member_of_tree : MemberTree → Member
member_of_tree (method name abi sig) = members.Method name abi (signature_of_tree sig)
member_of_tree (property name type_ put) = members.Property name (use_of_tree type_) put
member_of_tree (event name type_) = members.Event name (use_of_tree type_)

-- the declaration of a tree
abbrev pub decl_of_tree : DeclTree → Declaration
decl_of_tree (enum name version flags cases) = declarations.Enum name version flags cases
decl_of_tree (struct name version fields) = declarations.Struct name version (map field_of_tree fields)
decl_of_tree (delegate name version id invoke) = declarations.Delegate name version id (signature_of_tree invoke)
decl_of_tree (interface name version id owner requires_ members) = declarations.Interface name version id owner (map use_of_tree requires_) (map member_of_tree members)
decl_of_tree (class name version fixed default has direct factories statics) =
    declarations.Class name version fixed (option_map use_of_tree default) (map use_of_tree has) direct factories statics

-- The tree that a node of a file stands for.
use Rattle.std.specs.Prelude.{List, map, option_map}
use Rattle.midl_tree.specs.declared.nodes.EnumNode.{EnumNode}
use Rattle.midl_tree.specs.Trees.{EnumTree, TypeTree, base, named, types_of, AttributeTree, uuid, version, flags, default_interface, FieldsTree, StructTree, ParamTree, DelegateTree, MemberTree, method, event, properties, property, InterfaceTree, ClassMemberTree, member, constructor, ClassTree, DeclTree, enumeration, structure, delegate, interface, class, ItemTree, space, declared, items_of, SourceTree}
use Rattle.midl_tree.specs.declared.nodes.TypeNode.TheOpen.{TypeNode-F}
use Rattle.midl_tree.specs.declared.nodes.TypeNode.{TypeNode, fold-TypeNode}
use Rattle.midl_tree.specs.declared.nodes.AttributeNode.{AttributeNode}
use Rattle.midl_tree.specs.declared.nodes.FieldsNode.{FieldsNode}
use Rattle.midl_tree.specs.declared.nodes.StructNode.{StructNode}
use Rattle.midl_tree.specs.declared.nodes.ParamNode.{ParamNode}
use Rattle.midl_tree.specs.declared.nodes.DelegateNode.{DelegateNode}
use Rattle.midl_tree.specs.declared.nodes.MemberNode.{MemberNode}
use Rattle.midl_tree.specs.declared.nodes.InterfaceNode.{InterfaceNode}
use Rattle.midl_tree.specs.declared.nodes.ClassMemberNode.{ClassMemberNode}
use Rattle.midl_tree.specs.declared.nodes.ClassNode.{ClassNode}
use Rattle.midl_tree.specs.declared.nodes.DeclNode.{DeclNode}
use Rattle.midl_tree.specs.declared.nodes.ItemNode.TheOpen.{ItemNode-F}
use Rattle.midl_tree.specs.declared.nodes.ItemNode.{ItemNode, fold-ItemNode}
use Rattle.midl_tree.specs.declared.nodes.File.{File}
use Rattle.midl_tree.specs.declared.nodes.AttributeNode.TheVariants as attributes
use Rattle.midl_tree.specs.declared.nodes.MemberNode.TheVariants as members
use Rattle.midl_tree.specs.declared.nodes.ClassMemberNode.TheVariants as parts
use Rattle.midl_tree.specs.declared.nodes.DeclNode.TheVariants as decls

abbrev pub enum_view : EnumNode → EnumTree
enum_view e = record { name = e.name; cases = e.cases.items }

-- one level, with each type inside already seen
abbrev pub type_step : TypeNode-F TypeTree → TypeTree
type_step (TypeNode-F.Base b) = base b
type_step (TypeNode-F.Named path types) = named path.items (types_of types.items)

abbrev pub type_view : TypeNode → TypeTree
type_view = fold-TypeNode TypeTree type_step

abbrev pub types_view : List TypeNode → List TypeTree
types_view = map type_view

abbrev pub attribute_view : AttributeNode → AttributeTree
attribute_view (attributes.Uuid word id) = uuid word id
attribute_view (attributes.Version word number) = version word number
attribute_view (attributes.Flags word) = flags word
attribute_view (attributes.DefaultInterface word) = default_interface word

abbrev pub fields_view : FieldsNode → FieldsTree
fields_view f = record { kind = type_view f.kind; names = f.names.items }

abbrev pub struct_view : StructNode → StructTree
struct_view s = record { name = s.name; fields = map fields_view s.fields.items }

abbrev pub param_view : ParamNode → ParamTree
param_view p = record { out = p.out; kind = type_view p.kind; name = p.name }

abbrev pub delegate_view : DelegateNode → DelegateTree
delegate_view d = record { result = option_map type_view d.outcome; name = d.name; params = map param_view d.params.items }

abbrev pub member_view : MemberNode → MemberTree
member_view (members.Method outcome name params) = method (option_map type_view outcome) name (map param_view params.items)
member_view (members.Event kind name) = event (type_view kind) name
member_view (members.Properties kind names) = properties (type_view kind) names.items
member_view (members.Property kind name put) = property (type_view kind) name put

abbrev pub interface_view : InterfaceNode → InterfaceTree
interface_view i = record { name = i.name; required = types_view i.required.items; members = map member_view i.members.items }

abbrev pub class_member_view : ClassMemberNode → ClassMemberTree
class_member_view (parts.Member fixed part) = member fixed (member_view part)
class_member_view (parts.Constructor name params) = constructor name (map param_view params.items)

abbrev pub class_view : ClassNode → ClassTree
class_view c = record { fixed = c.fixed; name = c.name; bases = types_view c.bases.items; members = map class_member_view c.members.items }

abbrev pub decl_view : DeclNode → DeclTree
decl_view (decls.Enum e) = enumeration (enum_view e)
decl_view (decls.Struct s) = structure (struct_view s)
decl_view (decls.Delegate d) = delegate (delegate_view d)
decl_view (decls.Interface i) = interface (interface_view i)
decl_view (decls.Class c) = class (class_view c)

abbrev pub item_step : ItemNode-F ItemTree → ItemTree
item_step (ItemNode-F.Namespace name items) = space name.items (items_of items.items)
item_step (ItemNode-F.Declared groups tree) = declared (map (λ g. map attribute_view g.items) groups.items) (decl_view tree)

abbrev pub item_view : ItemNode → ItemTree
item_view = fold-ItemNode ItemTree item_step

abbrev pub source_view : File → SourceTree
source_view f = record { imports = map (λ v. v.items) f.imports.items; spaces = map item_view f.items.items }

-- The trees of files, without where they lie in memory.
use Rattle.std.specs.Prelude.{List, [], ◌∷◌, Bool, Option}
use Rattle.wr_base.specs.declared.type_use.Base.{Base}
use Rattle.midl_tree.specs.declared.terminal.Terminal.{Terminal}
use Rattle.midl_tree.specs.declared.nodes.CaseNode.{CaseNode}

pub record EnumTree : Type 0 where
  pub name : Terminal
  pub cases : List CaseNode

mutual
  pub data TypeTree : Type 0 where
    base : Base → TypeTree
    named : List Terminal → TypeTrees → TypeTree

  pub data TypeTrees : Type 0 where
    no_types : TypeTrees
    type_and : TypeTree → TypeTrees → TypeTrees

abbrev pub types_of : List TypeTree → TypeTrees
types_of [] = no_types
types_of (t ∷ ts) = type_and t (types_of ts)

-- an attribute, with its name
pub data AttributeTree : Type 0 where
  uuid : Terminal → Terminal → AttributeTree
  version : Terminal → Terminal → AttributeTree
  flags : Terminal → AttributeTree
  default_interface : Terminal → AttributeTree

pub record FieldsTree : Type 0 where
  pub kind : TypeTree
  pub names : List Terminal

pub record StructTree : Type 0 where
  pub name : Terminal
  pub fields : List FieldsTree

pub record ParamTree : Type 0 where
  pub out : Bool
  pub kind : TypeTree
  pub name : Terminal

pub record DelegateTree : Type 0 where
  pub result : Option TypeTree
  pub name : Terminal
  pub params : List ParamTree

-- a method without a type returns nothing; a property can be set or not; properties without accessors can
pub data MemberTree : Type 0 where
  method : Option TypeTree → Terminal → List ParamTree → MemberTree
  event : TypeTree → Terminal → MemberTree
  properties : TypeTree → List Terminal → MemberTree
  property : TypeTree → Terminal → Bool → MemberTree

pub record InterfaceTree : Type 0 where
  pub name : Terminal
  pub required : List TypeTree
  pub members : List MemberTree

pub data ClassMemberTree : Type 0 where
  member : Bool → MemberTree → ClassMemberTree
  constructor : Terminal → List ParamTree → ClassMemberTree

pub record ClassTree : Type 0 where
  pub fixed : Bool
  pub name : Terminal
  pub bases : List TypeTree
  pub members : List ClassMemberTree

pub data DeclTree : Type 0 where
  enumeration : EnumTree → DeclTree
  structure : StructTree → DeclTree
  delegate : DelegateTree → DeclTree
  interface : InterfaceTree → DeclTree
  class : ClassTree → DeclTree

mutual
  pub data ItemTree : Type 0 where
    space : List Terminal → ItemTrees → ItemTree
    declared : List (List AttributeTree) → DeclTree → ItemTree

  pub data ItemTrees : Type 0 where
    no_items : ItemTrees
    item_and : ItemTree → ItemTrees → ItemTrees

abbrev pub items_of : List ItemTree → ItemTrees
items_of [] = no_items
items_of (t ∷ ts) = item_and t (items_of ts)

pub record SourceTree : Type 0 where
  pub imports : List (List Terminal)
  pub spaces : List ItemTree

-- What the values of the program stand for.
use Rattle.std.specs.Prelude.{ℕ, List, map}
use denote.Ref.{Bor}
use Rattle.midl_tree.specs.declared.terminal.Terminal.{Terminal}
use Rattle.midl_tree.specs.declared.nodes.File.{File}
use Rattle.midl_tree.specs.declared.nodes.AttributeNode.{AttributeNode}
use Rattle.midl_tree.specs.declared.nodes.TypeNode.{TypeNode}
use Rattle.midl_tree.specs.Trees.{AttributeTree, TypeTree}
use Rattle.midl_tree.specs.Views.{source_view, attribute_view, type_view, decl_view}
use Rattle.midl_names.specs.declared.scoped.Scoped.{Scoped}
use Rattle.midl_names.specs.Items.{Source, Item}

-- the trees of attributes and of types
abbrev pub attributes_of : List (Bor AttributeNode) → List AttributeTree
attributes_of = map (λ a. attribute_view a.now)

abbrev pub types_of : List (Bor TypeNode) → List TypeTree
types_of = map (λ t. type_view t.now)

abbrev pub source_of : File → Source
source_of f = record { file = f.number; tree = source_view f }

abbrev pub sources_of : List File → List Source
sources_of = map source_of

-- the texts of names
abbrev pub parts_of : List (Bor Terminal) → List (List ℕ)
parts_of = map (λ t. t.now.text)

abbrev pub idents_of : List (Bor Terminal) → List Terminal
idents_of = map (λ t. t.now)

abbrev pub item_of : Scoped → Item
item_of d = record { file = d.file; space = parts_of d.space.items; attributes = attributes_of d.attributes.items; tree = decl_view d.tree.now }

-- The items of a set of sources: each declaration with its namespace and its attributes (MIDL 3.0 reference, Namespaces).
use Rattle.std.specs.Prelude.{ℕ, List, [], ◌∷◌, ◌++◌, map}
use Rattle.std.specs.List.{flat_map}
use Rattle.midl_tree.specs.declared.terminal.Terminal.{Terminal}
use Rattle.midl_tree.specs.Trees.{AttributeTree, DeclTree, enumeration, structure, delegate, interface, class, ItemTree, space, declared, ItemTrees, no_items, item_and, SourceTree}

-- a file's tree and the file's number in its set
pub record Source : Type 0 where
  pub file : ℕ
  pub tree : SourceTree

-- a declaration: its file, the parts of its namespace from the outermost on, its attributes with all groups as one list, and its tree
pub record Item : Type 0 where
  pub file : ℕ
  pub space : List (List ℕ)
  pub attributes : List AttributeTree
  pub tree : DeclTree

abbrev pub own_name : DeclTree → Terminal
own_name (enumeration e) = e.name
own_name (structure s) = s.name
own_name (delegate d) = d.name
own_name (interface i) = i.name
own_name (class c) = c.name

abbrev pub texts : List Terminal → List (List ℕ)
texts = map (λ t. t.text)

-- the parts of a namespace, each with a dot behind it
abbrev pub prefix : List (List ℕ) → List ℕ
prefix = flat_map (λ part. part ++ 46 ∷ [])

-- the full name: the namespace's parts and the own name, joined by dots
abbrev pub full_name : Item → List ℕ
full_name i = prefix i.space ++ (own_name i.tree).text

-- a declaration stands in a namespace: the grammar gives no other
abbrev pub item_at : ℕ → List (List ℕ) → List (List AttributeTree) → DeclTree → List Item
item_at file [] groups tree = []
item_at file (part ∷ parts) groups tree = record { file = file; space = part ∷ parts; attributes = flat_map (λ g. g) groups; tree = tree } ∷ []

-- what stands in a namespace, in the order of the source: a block's name adds its parts to those around it
abbrev mutual
  pub items_in : ℕ → List (List ℕ) → ItemTree → List Item
  items_in file around (space name items) = items_among file (around ++ texts name) items
  items_in file around (declared groups tree) = item_at file around groups tree

  pub items_among : ℕ → List (List ℕ) → ItemTrees → List Item
  items_among file around no_items = []
  items_among file around (item_and item items) = items_in file around item ++ items_among file around items

abbrev pub items_of_source : Source → List Item
items_of_source s = flat_map (items_in s.file []) s.tree.spaces

-- all items, file by file
abbrev pub items_of : List Source → List Item
items_of = flat_map items_of_source

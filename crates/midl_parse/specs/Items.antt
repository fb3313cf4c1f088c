-- The productions of declarations and of namespaces.
use Rattle.std.specs.Prelude.{List, ℕ, zero, suc}
use Rattle.grammar.specs.Productions.{Done, ◌>>=◌, Either, Many}
use Rattle.midl_tree.specs.declared.terminal.Terminal.{Terminal}
use Rattle.midl_tree.specs.Trees.{TypeTree, DeclTree, enumeration, structure, delegate, interface, class, AttributeTree, ItemTree, declared, space, items_of}
use Rattle.midl_tree.specs.declared.kind.Kind.TheVariants.{Namespace, OpenBrace, CloseBrace, Semicolon}
use Rattle.midl_words.specs.Tokens.{Is, IsThere, IsDotted}
use Rattle.midl_parse.specs.Enums.{IsEnum}
use Rattle.midl_parse.specs.Structs.{IsStruct}
use Rattle.midl_parse.specs.Signatures.{IsDelegate}
use Rattle.midl_parse.specs.Members.{IsInterface}
use Rattle.midl_parse.specs.Classes.{IsClass}
use Rattle.midl_parse.specs.Attributes.{IsGroup}

module _ (B : List Terminal → TypeTree → Type 0) (G : List Terminal → List TypeTree → Type 0) where
  -- Decl = Enum | Struct | Delegate | Interface | Class .
  abbrev pub IsDecl : List Terminal → DeclTree → Type 0
  IsDecl = Either (do
    tree ← IsEnum
    Done (enumeration tree)) (Either (do
      tree ← IsStruct B G
      Done (structure tree)) (Either (do
        tree ← IsDelegate B G
        Done (delegate tree)) (Either (do
          tree ← IsInterface B G
          Done (interface tree)) (do
            tree ← IsClass B G
            Done (class tree)))))

-- Attrs Decl, with Attrs = { "[" Attr { "," Attr } "]" } .
abbrev pub IsDeclared : (List Terminal → AttributeTree → Type 0) → (List Terminal → TypeTree → Type 0) → (List Terminal → List TypeTree → Type 0) → List Terminal → ItemTree → Type 0
IsDeclared A B G = do
  groups ← Many (IsGroup A)
  tree ← IsDecl B G
  Done (declared groups tree)

-- Namespace = "namespace" Dotted "{" { Namespace | Attrs Decl } "}" [ ";" ] .
abbrev pub SpaceWith : (List Terminal → List ItemTree → Type 0) → List Terminal → ItemTree → Type 0
SpaceWith items = do
  word ← Is Namespace
  name ← IsDotted
  begin ← Is OpenBrace
  inside ← items
  close ← Is CloseBrace
  end ← IsThere Semicolon
  Done (space name (items_of inside))

-- { Namespace | Attrs Decl }, with d more levels of namespaces
abbrev pub IsItems : (List Terminal → ItemTree → Type 0) → ℕ → List Terminal → List ItemTree → Type 0
IsItems D zero = Many D
IsItems D (suc d) = Many (Either (SpaceWith (IsItems D d)) D)

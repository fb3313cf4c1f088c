-- Declarations and namespaces, read from the left.
use Rattle.std.specs.Prelude.{List, [], ◌∷◌, ℕ, zero, suc}
use Rattle.grammar.specs.Readers.{Read, done_at, ◌>>=◌, either_at, many_at, bar_at}
use Rattle.midl_tree.specs.declared.terminal.Terminal.{Terminal}
use Rattle.midl_tree.specs.Trees.{TypeTree, DeclTree, enumeration, structure, delegate, interface, class, AttributeTree, ItemTree, declared, space, items_of}
use Rattle.midl_tree.specs.declared.kind.Kind.TheVariants.{Enum, Struct, Delegate, Interface, OpenBracket, Namespace, OpenBrace, CloseBrace, Semicolon}
use Rattle.midl_tree.specs.Kinds.{number_of, declared_first}
use Rattle.midl_tree.specs.Symbols.{kind_of}
use Rattle.midl_words.specs.declared.stop.Code.{Code}
use Rattle.midl_words.specs.Reading.{is_at, is_there_at, dotted_at}
use Rattle.midl_words.specs.declared.stop.Code.TheVariants.{TooDeep}
use Rattle.midl_parse.specs.ReadEnums.{enum_at}
use Rattle.midl_parse.specs.ReadStructs.{struct_at}
use Rattle.midl_parse.specs.ReadSignatures.{delegate_at}
use Rattle.midl_parse.specs.ReadMembers.{interface_at}
use Rattle.midl_parse.specs.ReadClasses.{class_at}
use Rattle.midl_parse.specs.ReadAttributes.{group_at}

module _ (b : List Terminal → Read Code Terminal TypeTree) (g : List Terminal → Read Code Terminal (List TypeTree)) where
  unfoldable pub enumeration_at : List Terminal → Read Code Terminal DeclTree
  enumeration_at = do
    tree ← enum_at
    done_at (enumeration tree)

  unfoldable pub structure_at : List Terminal → Read Code Terminal DeclTree
  structure_at = do
    tree ← struct_at b g
    done_at (structure tree)

  unfoldable pub delegated_at : List Terminal → Read Code Terminal DeclTree
  delegated_at = do
    tree ← delegate_at b g
    done_at (delegate tree)

  unfoldable pub interfaced_at : List Terminal → Read Code Terminal DeclTree
  interfaced_at = do
    tree ← interface_at b g
    done_at (interface tree)

  unfoldable pub classed_at : List Terminal → Read Code Terminal DeclTree
  classed_at = do
    tree ← class_at b g
    done_at (class tree)

  unfoldable pub decl_at : List Terminal → Read Code Terminal DeclTree
  decl_at =
      either_at kind_of (number_of Enum ∷ []) enumeration_at
      (either_at kind_of (number_of Struct ∷ []) structure_at
      (either_at kind_of (number_of Delegate ∷ []) delegated_at
      (either_at kind_of (number_of Interface ∷ []) interfaced_at classed_at)))

unfoldable pub declared_at : (List Terminal → Read Code Terminal AttributeTree) → (List Terminal → Read Code Terminal TypeTree) → (List Terminal → Read Code Terminal (List TypeTree)) → List Terminal → Read Code Terminal ItemTree
declared_at a b g = do
  groups ← many_at kind_of (number_of OpenBracket ∷ []) (group_at a)
  tree ← decl_at b g
  done_at (declared groups tree)

unfoldable pub space_with : (List Terminal → Read Code Terminal (List ItemTree)) → List Terminal → Read Code Terminal ItemTree
space_with items = do
  word ← is_at Namespace
  name ← dotted_at
  begin ← is_at OpenBrace
  inside ← items
  close ← is_at CloseBrace
  end ← is_there_at Semicolon
  done_at (space name (items_of inside))

unfoldable pub items_at : (List Terminal → Read Code Terminal ItemTree) → ℕ → List Terminal → Read Code Terminal (List ItemTree)
items_at r zero = many_at kind_of declared_first r >>= bar_at kind_of (number_of Namespace ∷ []) TooDeep
items_at r (suc d) = many_at kind_of (number_of Namespace ∷ declared_first) (either_at kind_of (number_of Namespace ∷ []) (space_with (items_at r d)) r)

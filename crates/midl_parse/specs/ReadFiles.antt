-- Whole files, read from the left.
use Rattle.std.specs.Prelude.{ℕ, List, [], ◌∷◌, Result}
use Rattle.grammar.specs.Readers.{Read, done_at, ◌>>=◌, many_at, all_at}
use Rattle.midl_tree.specs.declared.kind.Kind.TheVariants.{Import, Namespace}
use Rattle.midl_tree.specs.declared.terminal.Terminal.{Terminal}
use Rattle.midl_tree.specs.Kinds.{number_of}
use Rattle.midl_tree.specs.Symbols.{kind_of}
use Rattle.midl_tree.specs.Trees.{TypeTree, AttributeTree, SourceTree}
use Rattle.midl_words.specs.declared.stop.Code.{Code}
use Rattle.midl_words.specs.declared.stop.Code.TheVariants.{Syntax}
use Rattle.midl_parse.specs.ReadImports.{import_at}
use Rattle.midl_parse.specs.ReadTypes.{arguments_at, base_at}
use Rattle.midl_parse.specs.ReadItems.{declared_at, space_with, items_at}
use Rattle.midl_parse.specs.ReadAttributes.{attribute_at}

unfoldable pub source_with : ℕ → ℕ → (List Terminal → Read Code Terminal AttributeTree) → (List Terminal → Read Code Terminal TypeTree) → List Terminal → Read Code Terminal SourceTree
source_with d n a b = do
  imports ← many_at kind_of (number_of Import ∷ []) import_at
  spaces ← many_at kind_of (number_of Namespace ∷ []) (space_with (items_at (declared_at a b (arguments_at b n)) d))
  done_at (record { imports = imports; spaces = spaces })

unfoldable pub source_at : List Terminal → Result SourceTree (Code × ℕ)
source_at = all_at (source_with 15 15 attribute_at base_at) Syntax

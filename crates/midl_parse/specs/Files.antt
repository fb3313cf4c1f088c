-- The production of whole files.
use Rattle.std.specs.Prelude.{ℕ, List}
use Rattle.grammar.specs.Productions.{Done, ◌>>=◌, Many}
use Rattle.midl_tree.specs.declared.terminal.Terminal.{Terminal}
use Rattle.midl_tree.specs.Trees.{TypeTree, AttributeTree, SourceTree}
use Rattle.midl_parse.specs.Imports.{IsImport}
use Rattle.midl_parse.specs.Types.{IsArguments, IsBase}
use Rattle.midl_parse.specs.Items.{IsDeclared, SpaceWith, IsItems}
use Rattle.midl_parse.specs.Attributes.{IsAttribute}

-- File = { Import } { Namespace } ., with d more levels of namespaces inside, n more of types, and these attributes and base words
abbrev pub IsSourceWith : ℕ → ℕ → (List Terminal → AttributeTree → Type 0) → (List Terminal → TypeTree → Type 0) → List Terminal → SourceTree → Type 0
IsSourceWith d n A B = do
  imports ← Many IsImport
  spaces ← Many (SpaceWith (IsItems (IsDeclared A B (IsArguments B n)) d))
  Done (record { imports = imports; spaces = spaces })

-- 16 nested namespaces and 16 nested type uses
abbrev pub IsSource : List Terminal → SourceTree → Type 0
IsSource = IsSourceWith 15 15 IsAttribute IsBase

-- The production of imports.
use Rattle.std.specs.Prelude.{List}
use Rattle.grammar.specs.Productions.{Done, ◌>>=◌}
use Rattle.midl_tree.specs.declared.kind.Kind.TheVariants.{Import, Text, Semicolon}
use Rattle.midl_tree.specs.declared.terminal.Terminal.{Terminal}
use Rattle.midl_words.specs.Tokens.{Is}
use Rattle.midl_parse.specs.Lists.{Listed}

-- Import = "import" Text { "," Text } ";" .
abbrev pub IsImport : List Terminal → List Terminal → Type 0
IsImport = do
  word ← Is Import
  files ← Listed (Is Text)
  end ← Is Semicolon
  Done files

-- The productions of enums.
use Rattle.std.specs.Prelude.{List, ◌∷◌}
use Rattle.grammar.specs.Productions.{Done, ◌>>=◌, Optional, Trailing}
use Rattle.midl_tree.specs.declared.kind.Kind.TheVariants.{Number, Equals, Minus, Comma, Enum, OpenBrace, CloseBrace, Semicolon}
use Rattle.midl_tree.specs.declared.terminal.Terminal.{Terminal}
use Rattle.midl_tree.specs.declared.nodes.Value.{Value}
use Rattle.midl_tree.specs.declared.nodes.CaseNode.{CaseNode}
use Rattle.midl_tree.specs.Trees.{EnumTree}
use Rattle.midl_words.specs.Tokens.{Is, IsThere, IsName, IsOwnName}
use Rattle.midl_parse.specs.Lists.{or_none}

-- "=" [ "-" ] Number
abbrev pub IsValue : List Terminal → Value → Type 0
IsValue = do
  equals ← Is Equals
  negated ← IsThere Minus
  number ← Is Number
  Done (record { negated = negated; number = number })

-- Case = Name [ "=" [ "-" ] Number ] .
abbrev pub IsCase : List Terminal → CaseNode → Type 0
IsCase = do
  name ← IsName
  value ← Optional IsValue
  Done (record { name = name; value = value })

-- Case { "," Case } [ "," ]
abbrev pub IsCases : List Terminal → List CaseNode → Type 0
IsCases = do
  first ← IsCase
  others ← Trailing (Is Comma) IsCase
  Done (first ∷ others)

-- Enum = "enum" Name "{" [ Case { "," Case } [ "," ] ] "}" [ ";" ] .
abbrev pub IsEnum : List Terminal → EnumTree → Type 0
IsEnum = do
  word ← Is Enum
  name ← IsOwnName
  begin ← Is OpenBrace
  cases ← Optional IsCases
  close ← Is CloseBrace
  end ← IsThere Semicolon
  Done (record { name = name; cases = or_none cases })

-- Enums, read from the left.
use Rattle.std.specs.Prelude.{List, [], ◌∷◌}
use Rattle.grammar.specs.Readers.{Read, done_at, ◌>>=◌, optional_at, trailing_at}
use Rattle.midl_tree.specs.declared.kind.Kind.TheVariants.{Number, Equals, Minus, Comma, Enum, OpenBrace, CloseBrace, Semicolon}
use Rattle.midl_tree.specs.declared.terminal.Terminal.{Terminal}
use Rattle.midl_tree.specs.declared.nodes.Value.{Value}
use Rattle.midl_tree.specs.Kinds.{number_of, names}
use Rattle.midl_tree.specs.Symbols.{kind_of}
use Rattle.midl_tree.specs.declared.nodes.CaseNode.{CaseNode}
use Rattle.midl_tree.specs.Trees.{EnumTree}
use Rattle.midl_words.specs.declared.stop.Code.{Code}
use Rattle.midl_words.specs.Reading.{is_at, is_there_at, name_at, own_name_at}
use Rattle.midl_parse.specs.Lists.{or_none}

unfoldable pub value_at : List Terminal → Read Code Terminal Value
value_at = do
  equals ← is_at Equals
  negated ← is_there_at Minus
  number ← is_at Number
  done_at (record { negated = negated; number = number })

unfoldable pub case_at : List Terminal → Read Code Terminal CaseNode
case_at = do
  name ← name_at
  value ← optional_at kind_of (number_of Equals ∷ []) value_at
  done_at (record { name = name; value = value })

abbrev pub more_cases_at : List Terminal → Read Code Terminal (List CaseNode)
more_cases_at = trailing_at kind_of (number_of Comma ∷ []) (is_at Comma) names case_at

unfoldable pub cases_at : List Terminal → Read Code Terminal (List CaseNode)
cases_at = do
  first ← case_at
  others ← more_cases_at
  done_at (first ∷ others)

unfoldable pub enum_at : List Terminal → Read Code Terminal EnumTree
enum_at = do
  word ← is_at Enum
  name ← own_name_at
  begin ← is_at OpenBrace
  cases ← optional_at kind_of names cases_at
  close ← is_at CloseBrace
  end ← is_there_at Semicolon
  done_at (record { name = name; cases = or_none cases })

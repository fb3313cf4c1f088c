-- Types, read from the left.
use Rattle.std.specs.Prelude.{List, [], ◌∷◌, ℕ, zero, suc}
use Rattle.grammar.specs.Readers.{Read, done_at, ◌>>=◌, refusing_at, either_at, bar_at}
use Rattle.midl_tree.specs.declared.kind.Kind.TheVariants.{Base, Float, Less, Greater}
use Rattle.midl_tree.specs.declared.terminal.Terminal.{Terminal}
use Rattle.midl_tree.specs.Trees.{TypeTree, base, named, types_of}
use Rattle.midl_tree.specs.Kinds.{number_of}
use Rattle.midl_tree.specs.Symbols.{kind_of}
use Rattle.midl_words.specs.declared.stop.Code.{Code}
use Rattle.midl_words.specs.Words.{base_by}
use Rattle.midl_words.specs.Reading.{is_at, own_name_at, more_dots_at}
use Rattle.midl_words.specs.declared.stop.Code.TheVariants.{FloatType, TooDeep}
use Rattle.midl_parse.specs.ReadLists.{listed_at}

unfoldable pub base_word_at : List Terminal → Read Code Terminal TypeTree
base_word_at = do
  word ← is_at Base
  done_at (base (base_by word.text))

unfoldable pub float_at : List Terminal → Read Code Terminal TypeTree
float_at = do
  word ← is_at Float
  done_at (base (base_by word.text))

unfoldable pub base_at : List Terminal → Read Code Terminal TypeTree
base_at = refusing_at kind_of (number_of Float ∷ []) FloatType base_word_at

unfoldable pub base_or_float_at : List Terminal → Read Code Terminal TypeTree
base_or_float_at = either_at kind_of (number_of Float ∷ []) float_at base_word_at

unfoldable pub path_at : List Terminal → Read Code Terminal (List Terminal)
path_at = do
  first ← own_name_at
  others ← more_dots_at
  done_at (first ∷ others)

unfoldable pub path_type_at : (List Terminal → Read Code Terminal (List TypeTree)) → List Terminal → Read Code Terminal TypeTree
path_type_at g = do
  path ← path_at
  types ← g
  done_at (named path (types_of types))

unfoldable pub type_at : (List Terminal → Read Code Terminal TypeTree) → (List Terminal → Read Code Terminal (List TypeTree)) → List Terminal → Read Code Terminal TypeTree
type_at b g = either_at kind_of (number_of Base ∷ number_of Float ∷ []) b (path_type_at g)

unfoldable pub bracketed_at : (List Terminal → Read Code Terminal TypeTree) → List Terminal → Read Code Terminal (List TypeTree)
bracketed_at r = do
  less ← is_at Less
  types ← listed_at r
  greater ← is_at Greater
  done_at types

unfoldable pub arguments_at : (List Terminal → Read Code Terminal TypeTree) → ℕ → List Terminal → Read Code Terminal (List TypeTree)
arguments_at b zero = bar_at kind_of (number_of Less ∷ []) TooDeep []
arguments_at b (suc n) = either_at kind_of (number_of Less ∷ []) (bracketed_at (type_at b (arguments_at b n))) (done_at [])

-- the arguments of the grammar itself, n levels deep
abbrev pub args_at : ℕ → List Terminal → Read Code Terminal (List TypeTree)
args_at n = arguments_at base_at n

-- its types
abbrev pub types_at : ℕ → List Terminal → Read Code Terminal TypeTree
types_at n = type_at base_at (args_at n)

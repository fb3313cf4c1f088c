-- The productions of types; and, as the code of a fault asks, with floats as base words.
use Rattle.std.specs.Prelude.{List, ◌∷◌, ℕ, zero, suc, []}
use Rattle.grammar.specs.Productions.{Done, ◌>>=◌, Many, Either}
use Rattle.midl_tree.specs.declared.kind.Kind.TheVariants.{Dot, Base, Float, Less, Greater}
use Rattle.midl_tree.specs.declared.terminal.Terminal.{Terminal}
use Rattle.midl_tree.specs.Trees.{TypeTree, base, named, types_of}
use Rattle.midl_words.specs.Words.{base_by}
use Rattle.midl_words.specs.Tokens.{IsName, IsOwnName, Behind, Is}
use Rattle.midl_parse.specs.Lists.{Listed}

-- Dotted where a type may stand: its first name is no base word, and no float
abbrev pub IsPath : List Terminal → List Terminal → Type 0
IsPath = do
  first ← IsOwnName
  others ← Many (Behind Dot IsName)
  Done (first ∷ others)

-- a word that names a base type
abbrev pub IsBase : List Terminal → TypeTree → Type 0
IsBase = do
  word ← Is Base
  Done (base (base_by word.text))

-- with Single and Double as base words
abbrev pub IsBaseOrFloat : List Terminal → TypeTree → Type 0
IsBaseOrFloat = Either (do
  word ← Is Float
  Done (base (base_by word.text))) IsBase

-- Type = Base | Dotted [ "<" Types ">" ] .
abbrev pub IsType : (List Terminal → TypeTree → Type 0) → (List Terminal → List TypeTree → Type 0) → List Terminal → TypeTree → Type 0
IsType B G = Either B (do
  path ← IsPath
  types ← G
  Done (named path (types_of types)))

-- "<" P { "," P } ">"
abbrev pub Bracketed : (List Terminal → TypeTree → Type 0) → List Terminal → List TypeTree → Type 0
Bracketed P = do
  less ← Is Less
  types ← Listed P
  greater ← Is Greater
  Done types

-- the arguments of a type, n levels deep
abbrev pub IsArguments : (List Terminal → TypeTree → Type 0) → ℕ → List Terminal → List TypeTree → Type 0
IsArguments B zero = Done []
IsArguments B (suc n) = Either (Bracketed (IsType B (IsArguments B n))) (Done [])

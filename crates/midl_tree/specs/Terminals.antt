-- What is known of a token as the grammar sees it.
use Rattle.std.specs.Prelude.{◌≤◌, length, IsTrue, ◌<◌, ◌^◌, ◌≡◌, true, [], ◌∷◌}
use Rattle.std.specs.Str.{IsAscii}
use Rattle.grammar.specs.Productions.{has}
use Rattle.wr_base.specs.Paths.{is_identifier}
use Rattle.midl_lex.specs.Numbers.{IsNumber, value_of}
use Rattle.midl_tree.specs.Symbols.{Symbol, kind_of}
use Rattle.midl_tree.specs.declared.kind.Kind.TheVariants.{Number}
use Rattle.midl_tree.specs.Kinds.{number_of, names}

-- an identifier of at most 255 bytes
pub record IsWord (s : Symbol) : Type 0 where
  pub identifier : IsTrue (is_identifier s.text)
  pub short : length s.text ≤ 255

-- a number below 2^64
pub record IsCount (s : Symbol) : Type 0 where
  pub number : IsNumber s.text
  pub fits : value_of s.text < 2 ^ 64

-- its text is ASCII, and each Name is a word, and each Number a number
pub record IsLexed (s : Symbol) : Type 0 where
  pub ascii : IsAscii s.text
  pub name : has names (kind_of s) ≡ true → IsWord s
  pub number : has (number_of Number ∷ []) (kind_of s) ≡ true → IsCount s

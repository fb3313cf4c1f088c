-- Tokens as the grammar sees them, and their kinds.
use Rattle.std.specs.Prelude.{ℕ, List}
use Rattle.midl_tree.specs.declared.kind.Kind.{Kind}
use Rattle.midl_tree.specs.Kinds.{number_of}

-- the offset of a token in its file, what it is to the grammar, and its spelling where it isn't a mark
pub record Symbol : Type 0 where
  pub offset : ℕ
  pub kind : Kind
  pub text : List ℕ

abbrev pub kind_of : Symbol → ℕ
kind_of s = number_of s.kind

-- Lists behind commas, read from the left.
use Rattle.std.specs.Prelude.{List, [], ◌∷◌}
use Rattle.grammar.specs.Readers.{Read, done_at, ◌>>=◌, many_at}
use Rattle.midl_tree.specs.declared.kind.Kind.TheVariants.{Comma}
use Rattle.midl_tree.specs.declared.terminal.Terminal.{Terminal}
use Rattle.midl_tree.specs.Kinds.{number_of}
use Rattle.midl_tree.specs.Symbols.{kind_of}
use Rattle.midl_words.specs.declared.stop.Code.{Code}
use Rattle.midl_words.specs.Reading.{behind_at}

unfoldable pub listed_at : {A : Type 0} → (List Terminal → Read Code Terminal A) → List Terminal → Read Code Terminal (List A)
listed_at r = do
  first ← r
  others ← many_at kind_of (number_of Comma ∷ []) (behind_at Comma r)
  done_at (first ∷ others)

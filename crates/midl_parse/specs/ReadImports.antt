-- Imports, read from the left.
use Rattle.std.specs.Prelude.{List}
use Rattle.grammar.specs.Readers.{Read, done_at, ◌>>=◌}
use Rattle.midl_tree.specs.declared.kind.Kind.TheVariants.{Import, Text, Semicolon}
use Rattle.midl_tree.specs.declared.terminal.Terminal.{Terminal}
use Rattle.midl_words.specs.declared.stop.Code.{Code}
use Rattle.midl_words.specs.Reading.{is_at}
use Rattle.midl_parse.specs.ReadLists.{listed_at}

unfoldable pub import_at : List Terminal → Read Code Terminal (List Terminal)
import_at = do
  word ← is_at Import
  files ← listed_at (is_at Text)
  end ← is_at Semicolon
  done_at files

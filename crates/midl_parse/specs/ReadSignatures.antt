-- Parameters, results and delegates, read from the left.
use Rattle.std.specs.Prelude.{List, ◌∷◌, Option, None, Some, []}
use Rattle.grammar.specs.Readers.{Read, done_at, ◌>>=◌, optional_at, either_at}
use Rattle.midl_tree.specs.declared.kind.Kind.TheVariants.{Out, OpenParen, CloseParen, Semicolon, Void, Delegate}
use Rattle.midl_tree.specs.declared.terminal.Terminal.{Terminal}
use Rattle.midl_tree.specs.Trees.{TypeTree, ParamTree, DelegateTree}
use Rattle.midl_tree.specs.Kinds.{number_of, names}
use Rattle.midl_tree.specs.Symbols.{kind_of}
use Rattle.midl_words.specs.declared.stop.Code.{Code}
use Rattle.midl_words.specs.Reading.{is_there_at, name_at, is_at, own_name_at}
use Rattle.midl_parse.specs.ReadTypes.{type_at}
use Rattle.midl_parse.specs.Lists.{or_none}
use Rattle.midl_parse.specs.ReadLists.{listed_at}

module _ (b : List Terminal → Read Code Terminal TypeTree) (g : List Terminal → Read Code Terminal (List TypeTree)) where
  unfoldable pub param_at : List Terminal → Read Code Terminal ParamTree
  param_at = do
    out ← is_there_at Out
    kind ← type_at b g
    name ← name_at
    done_at (record { out = out; kind = kind; name = name })

  unfoldable pub params_at : List Terminal → Read Code Terminal (List ParamTree)
  params_at = do
    begin ← is_at OpenParen
    params ← optional_at kind_of (number_of Out ∷ names) (listed_at param_at)
    close ← is_at CloseParen
    end ← is_at Semicolon
    done_at (or_none params)

  unfoldable pub void_at : List Terminal → Read Code Terminal (Option TypeTree)
  void_at = do
    word ← is_at Void
    done_at None

  unfoldable pub some_type_at : List Terminal → Read Code Terminal (Option TypeTree)
  some_type_at = do
    kind ← type_at b g
    done_at (Some kind)

  unfoldable pub result_at : List Terminal → Read Code Terminal (Option TypeTree)
  result_at = either_at kind_of (number_of Void ∷ []) void_at some_type_at

  unfoldable pub delegate_at : List Terminal → Read Code Terminal DelegateTree
  delegate_at = do
    word ← is_at Delegate
    result ← result_at
    name ← own_name_at
    params ← params_at
    done_at (record { result = result; name = name; params = params })

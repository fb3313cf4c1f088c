-- The productions of parameters, results and delegates.
use Rattle.std.specs.Prelude.{List, Option, Some, None}
use Rattle.grammar.specs.Productions.{Done, ◌>>=◌, Optional, Either}
use Rattle.midl_tree.specs.declared.kind.Kind.TheVariants.{Out, OpenParen, CloseParen, Semicolon, Void, Delegate}
use Rattle.midl_tree.specs.declared.terminal.Terminal.{Terminal}
use Rattle.midl_tree.specs.Trees.{TypeTree, ParamTree, DelegateTree}
use Rattle.midl_words.specs.Tokens.{IsThere, IsName, Is, IsOwnName}
use Rattle.midl_parse.specs.Types.{IsType}
use Rattle.midl_parse.specs.Lists.{or_none, Listed}

module _ (B : List Terminal → TypeTree → Type 0) (G : List Terminal → List TypeTree → Type 0) where
  -- Param = [ "out" ] Type Name .
  abbrev pub IsParam : List Terminal → ParamTree → Type 0
  IsParam = do
    out ← IsThere Out
    kind ← IsType B G
    name ← IsName
    Done (record { out = out; kind = kind; name = name })

  -- "(" [ Params ] ")" ";"
  abbrev pub IsParams : List Terminal → List ParamTree → Type 0
  IsParams = do
    begin ← Is OpenParen
    params ← Optional (Listed IsParam)
    close ← Is CloseParen
    end ← Is Semicolon
    Done (or_none params)

  -- Result = "void" | Type .
  abbrev pub IsResult : List Terminal → Option TypeTree → Type 0
  IsResult = Either (do
    word ← Is Void
    Done None) (do
      kind ← IsType B G
      Done (Some kind))

  -- Delegate = "delegate" Result Name "(" [ Params ] ")" ";" .
  abbrev pub IsDelegate : List Terminal → DelegateTree → Type 0
  IsDelegate = do
    word ← Is Delegate
    result ← IsResult
    name ← IsOwnName
    params ← IsParams
    Done (record { result = result; name = name; params = params })

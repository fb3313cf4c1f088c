-- The productions of members and of interfaces.
use Rattle.std.specs.Prelude.{Bool, true, is_some, List}
use Rattle.grammar.specs.Productions.{Done, ◌>>=◌, Optional, Either}
use Rattle.midl_tree.specs.declared.kind.Kind.TheVariants.{Get, Set, Semicolon, OpenBrace, CloseBrace, Event, Interface, Requires}
use Rattle.midl_tree.specs.declared.terminal.Terminal.{Terminal}
use Rattle.midl_tree.specs.Trees.{TypeTree, MemberTree, method, event, properties, property, InterfaceTree}
use Rattle.midl_tree.specs.Kinds.{names}
use Rattle.midl_words.specs.Tokens.{Is, IsThere, IsName, IsOwnName, Behind}
use Rattle.midl_parse.specs.Lists.{Listed, or_none, InBraces}
use Rattle.midl_parse.specs.Types.{IsType}
use Rattle.midl_parse.specs.Signatures.{IsParams, IsResult}

module _ (B : List Terminal → TypeTree → Type 0) (G : List Terminal → List TypeTree → Type 0) where
  -- "get" ";" [ "set" ";" ] | "set" ";" "get" ";", and whether there is a set
  abbrev pub IsGetOrSet : List Terminal → Bool → Type 0
  IsGetOrSet = Either (do
    word ← Is Get
    end ← Is Semicolon
    put ← Optional (do
      set ← Is Set
      Is Semicolon)
    Done (is_some put)) (do
      word ← Is Set
      end ← Is Semicolon
      get ← Is Get
      last ← Is Semicolon
      Done true)

  -- Accessors = "{" ( "get" ";" [ "set" ";" ] | "set" ";" "get" ";" ) "}" [ ";" ] .
  abbrev pub IsAccessors : List Terminal → Bool → Type 0
  IsAccessors = do
    begin ← Is OpenBrace
    put ← IsGetOrSet
    close ← Is CloseBrace
    end ← IsThere Semicolon
    Done put

  -- Member = Result Name "(" [ Params ] ")" ";" | "event" Type Name ";" | Type Name { "," Name } ";" | Type Name Accessors .
  abbrev pub IsMember : List Terminal → MemberTree → Type 0
  IsMember = Either (do
    result ← IsResult B G
    name ← IsName
    params ← IsParams B G
    Done (method result name params)) (Either (do
      word ← Is Event
      kind ← IsType B G
      name ← IsName
      end ← Is Semicolon
      Done (event kind name)) (Either (do
        kind ← IsType B G
        names ← Listed IsName
        end ← Is Semicolon
        Done (properties kind names)) (do
          kind ← IsType B G
          name ← IsName
          put ← IsAccessors
          Done (property kind name put))))

  -- Interface = "interface" Name [ "requires" Types ] "{" { Member } "}" [ ";" ] .
  abbrev pub IsInterface : List Terminal → InterfaceTree → Type 0
  IsInterface = do
    word ← Is Interface
    name ← IsOwnName
    required ← Optional (Behind Requires (Listed (IsType B G)))
    members ← InBraces IsMember
    Done (record { name = name; required = or_none required; members = members })

-- The productions of classes.
use Rattle.std.specs.Prelude.{List}
use Rattle.grammar.specs.Productions.{Done, ◌>>=◌, Either, Optional}
use Rattle.midl_tree.specs.declared.terminal.Terminal.{Terminal}
use Rattle.midl_tree.specs.Trees.{TypeTree, ClassMemberTree, constructor, member, ClassTree}
use Rattle.midl_tree.specs.declared.kind.Kind.TheVariants.{Static, Runtimeclass, Colon}
use Rattle.midl_words.specs.Tokens.{IsOwnName, IsThere, Is, Behind}
use Rattle.midl_parse.specs.Signatures.{IsParams}
use Rattle.midl_parse.specs.Members.{IsMember}
use Rattle.midl_parse.specs.Lists.{or_none, Listed, InBraces}
use Rattle.midl_parse.specs.Types.{IsType}

module _ (B : List Terminal → TypeTree → Type 0) (G : List Terminal → List TypeTree → Type 0) where
  -- Ctor = Name "(" [ Params ] ")" ";" .
  abbrev pub IsConstructor : List Terminal → ClassMemberTree → Type 0
  IsConstructor = do
    name ← IsOwnName
    params ← IsParams B G
    Done (constructor name params)

  -- [ "static" ] Member | Ctor
  abbrev pub IsClassMember : List Terminal → ClassMemberTree → Type 0
  IsClassMember = Either (do
    fixed ← IsThere Static
    part ← IsMember B G
    Done (member fixed part)) IsConstructor

  -- Class = [ "static" ] "runtimeclass" Name [ ":" Types ] "{" { [ "static" ] Member | Ctor } "}" [ ";" ] .
  abbrev pub IsClass : List Terminal → ClassTree → Type 0
  IsClass = do
    fixed ← IsThere Static
    word ← Is Runtimeclass
    name ← IsOwnName
    bases ← Optional (Behind Colon (Listed (IsType B G)))
    members ← InBraces IsClassMember
    Done (record { fixed = fixed; name = name; bases = or_none bases; members = members })

-- Classes, read from the left: members sorted by the tokens that they begin with.
use Rattle.std.specs.Prelude.{Bool, List, true, false, ◌∷◌, []}
use Rattle.grammar.specs.Readers.{Read, done_at, ◌>>=◌, either_at, many_at, optional_at}
use Rattle.midl_tree.specs.declared.terminal.Terminal.{Terminal}
use Rattle.midl_tree.specs.Trees.{TypeTree, MemberTree, ClassMemberTree, member, constructor, named, types_of, ClassTree}
use Rattle.midl_tree.specs.declared.kind.Kind.TheVariants.{Static, OpenParen, Event, Void, Base, Float, Colon, OpenBrace, CloseBrace, Semicolon, Runtimeclass}
use Rattle.midl_tree.specs.Kinds.{number_of, names}
use Rattle.midl_tree.specs.Symbols.{kind_of}
use Rattle.midl_words.specs.declared.stop.Code.{Code}
use Rattle.midl_words.specs.Reading.{is_at, more_dots_at, own_name_at, behind_at, is_there_at}
use Rattle.midl_parse.specs.ReadMembers.{member_at, typed_at, void_member_at, event_at}
use Rattle.midl_parse.specs.ReadSignatures.{params_at}
use Rattle.midl_parse.specs.ReadLists.{listed_at}
use Rattle.midl_parse.specs.ReadTypes.{type_at}
use Rattle.midl_parse.specs.Lists.{or_none}

module _ (b : List Terminal → Read Code Terminal TypeTree) (g : List Terminal → Read Code Terminal (List TypeTree)) where
  unfoldable pub own_at : Bool → (List Terminal → Read Code Terminal MemberTree) → List Terminal → Read Code Terminal ClassMemberTree
  own_at fixed r = do
    part ← r
    done_at (member fixed part)

  unfoldable pub static_at : List Terminal → Read Code Terminal ClassMemberTree
  static_at = do
    word ← is_at Static
    own_at true (member_at b g)

  unfoldable pub based_at : List Terminal → Read Code Terminal ClassMemberTree
  based_at = do
    kind ← b
    own_at false (typed_at b g kind)

  unfoldable pub constructor_at : Terminal → List Terminal → Read Code Terminal ClassMemberTree
  constructor_at name = do
    params ← params_at b g
    done_at (constructor name params)

  -- a path whose first name was read, its arguments, and what stands behind the type
  unfoldable pub rest_at : Terminal → List Terminal → Read Code Terminal ClassMemberTree
  rest_at name = do
    others ← more_dots_at
    types ← g
    own_at false (typed_at b g (named (name ∷ others) (types_of types)))

  unfoldable pub from_name_at : List Terminal → Read Code Terminal ClassMemberTree
  from_name_at = do
    name ← own_name_at
    either_at kind_of (number_of OpenParen ∷ []) (constructor_at name) (rest_at name)

  unfoldable pub class_member_at : List Terminal → Read Code Terminal ClassMemberTree
  class_member_at =
      either_at kind_of (number_of Static ∷ []) static_at
      (either_at kind_of (number_of Void ∷ []) (own_at false (void_member_at b g))
      (either_at kind_of (number_of Event ∷ []) (own_at false (event_at b g))
      (either_at kind_of (number_of Base ∷ number_of Float ∷ []) based_at from_name_at)))

  unfoldable pub bases_at : List Terminal → Read Code Terminal (List TypeTree)
  bases_at = behind_at Colon (listed_at (type_at b g))

  unfoldable pub class_body_at : List Terminal → Read Code Terminal (List ClassMemberTree)
  class_body_at = do
    begin ← is_at OpenBrace
    members ← many_at kind_of (number_of Static ∷ number_of Void ∷ number_of Event ∷ names) class_member_at
    close ← is_at CloseBrace
    end ← is_there_at Semicolon
    done_at members

  unfoldable pub class_at : List Terminal → Read Code Terminal ClassTree
  class_at = do
    fixed ← is_there_at Static
    word ← is_at Runtimeclass
    name ← own_name_at
    bases ← optional_at kind_of (number_of Colon ∷ []) bases_at
    members ← class_body_at
    done_at (record { fixed = fixed; name = name; bases = or_none bases; members = members })

-- Members and interfaces, read from the left: members sorted by the tokens that they begin with.
use Rattle.std.specs.Prelude.{List, Bool, is_some, [], ◌∷◌, true, Option, Some, None}
use Rattle.grammar.specs.Readers.{Read, ◌>>=◌, done_at, optional_at, either_at, many_at}
use Rattle.midl_tree.specs.declared.kind.Kind.TheVariants.{Set, Semicolon, Get, OpenBrace, CloseBrace, Comma, OpenParen, Void, Event, Requires, Interface}
use Rattle.midl_tree.specs.declared.terminal.Terminal.{Terminal}
use Rattle.midl_tree.specs.Trees.{TypeTree, MemberTree, method, property, properties, event, InterfaceTree}
use Rattle.midl_tree.specs.Kinds.{number_of, names}
use Rattle.midl_tree.specs.Symbols.{kind_of}
use Rattle.midl_words.specs.declared.stop.Code.{Code}
use Rattle.midl_words.specs.Reading.{is_at, is_there_at, name_at, behind_at, own_name_at}
use Rattle.midl_parse.specs.ReadSignatures.{params_at}
use Rattle.midl_parse.specs.ReadTypes.{type_at}
use Rattle.midl_parse.specs.ReadLists.{listed_at}
use Rattle.midl_parse.specs.Lists.{or_none}

module _ (b : List Terminal → Read Code Terminal TypeTree) (g : List Terminal → Read Code Terminal (List TypeTree)) where
  unfoldable pub set_end_at : List Terminal → Read Code Terminal Terminal
  set_end_at = do
    set ← is_at Set
    is_at Semicolon

  unfoldable pub get_first_at : List Terminal → Read Code Terminal Bool
  get_first_at = do
    word ← is_at Get
    end ← is_at Semicolon
    put ← optional_at kind_of (number_of Set ∷ []) set_end_at
    done_at (is_some put)

  unfoldable pub set_first_at : List Terminal → Read Code Terminal Bool
  set_first_at = do
    word ← is_at Set
    end ← is_at Semicolon
    get ← is_at Get
    last ← is_at Semicolon
    done_at true

  unfoldable pub accessors_at : List Terminal → Read Code Terminal Bool
  accessors_at = do
    begin ← is_at OpenBrace
    put ← either_at kind_of (number_of Get ∷ []) get_first_at set_first_at
    close ← is_at CloseBrace
    end ← is_there_at Semicolon
    done_at put

  unfoldable pub method_at : Option TypeTree → Terminal → List Terminal → Read Code Terminal MemberTree
  method_at result name = do
    params ← params_at b g
    done_at (method result name params)

  unfoldable pub property_at : TypeTree → Terminal → List Terminal → Read Code Terminal MemberTree
  property_at kind name = do
    put ← accessors_at
    done_at (property kind name put)

  unfoldable pub properties_at : TypeTree → Terminal → List Terminal → Read Code Terminal MemberTree
  properties_at kind name = do
    others ← many_at kind_of (number_of Comma ∷ []) (behind_at Comma name_at)
    end ← is_at Semicolon
    done_at (properties kind (name ∷ others))

  -- what stands behind a member's type
  unfoldable pub typed_at : TypeTree → List Terminal → Read Code Terminal MemberTree
  typed_at kind = do
    name ← name_at
    either_at kind_of (number_of OpenParen ∷ []) (method_at (Some kind) name) (either_at kind_of (number_of OpenBrace ∷ []) (property_at kind name) (properties_at kind name))

  unfoldable pub void_member_at : List Terminal → Read Code Terminal MemberTree
  void_member_at = do
    word ← is_at Void
    name ← name_at
    method_at None name

  unfoldable pub event_at : List Terminal → Read Code Terminal MemberTree
  event_at = do
    word ← is_at Event
    kind ← type_at b g
    name ← name_at
    end ← is_at Semicolon
    done_at (event kind name)

  unfoldable pub typed_member_at : List Terminal → Read Code Terminal MemberTree
  typed_member_at = do
    kind ← type_at b g
    typed_at kind

  unfoldable pub member_at : List Terminal → Read Code Terminal MemberTree
  member_at = either_at kind_of (number_of Void ∷ []) void_member_at (either_at kind_of (number_of Event ∷ []) event_at typed_member_at)

  unfoldable pub required_at : List Terminal → Read Code Terminal (List TypeTree)
  required_at = behind_at Requires (listed_at (type_at b g))

  unfoldable pub body_at : List Terminal → Read Code Terminal (List MemberTree)
  body_at = do
    begin ← is_at OpenBrace
    members ← many_at kind_of (number_of Void ∷ number_of Event ∷ names) member_at
    close ← is_at CloseBrace
    end ← is_there_at Semicolon
    done_at members

  unfoldable pub interface_at : List Terminal → Read Code Terminal InterfaceTree
  interface_at = do
    word ← is_at Interface
    name ← own_name_at
    required ← optional_at kind_of (number_of Requires ∷ []) required_at
    members ← body_at
    done_at (record { name = name; required = or_none required; members = members })

-- Each production of whole files is read by its reader, in the grammar and in the one that a code asks about.
use Rattle.std.proofs.Common.{◌≡◌, ℕ, Bool, true, false, is_some, List, [], ◌∷◌, ◌++◌, Option, Some, None, refl}
use Rattle.grammar.specs.Productions.{Done}
use Rattle.grammar.specs.Readers.{Read, done_at}
use Rattle.grammar.proofs.KindSets.{apart, apart_none}
use Rattle.grammar.proofs.ReaderLaws.{one_reads}
use Rattle.grammar.proofs.Algebra.{turned}
use Rattle.grammar.proofs.Depths.{Never, never_one, never_done, never_then, never_either, never_many, never_trailing}
use Rattle.grammar.proofs.Limits.{Limited, fixed, both_then, both_done, both_either, both_same, both_perhaps, both_many, both_wider}
use Rattle.midl_tree.specs.declared.kind.Kind.{Kind}
use Rattle.midl_tree.specs.declared.kind.Kind.TheVariants.{Import, Namespace, Enum, Struct, Delegate, Interface, Runtimeclass, Requires, Event, Static, Out, Void, Base, Uuid, Version, Flags, DefaultInterface, Get, Set, Number, Guid, Text, OpenBrace, CloseBrace, OpenParen, CloseParen, OpenBracket, CloseBracket, Less, Greater, Comma, Semicolon, Colon, Dot, Equals, Minus, Float, Name}
use Rattle.midl_tree.specs.declared.terminal.Terminal.{Terminal}
use Rattle.midl_words.specs.declared.stop.Code.{Code}
use Rattle.midl_words.specs.declared.stop.Code.TheVariants.{Syntax}
use Rattle.midl_tree.specs.Kinds.{number_of, names, own_names, decl_first, declared_first}
use Rattle.midl_tree.specs.Symbols.{kind_of}
use Rattle.midl_tree.specs.Trees.{TypeTree, base, named, types_of, AttributeTree, uuid, version, flags, default_interface, MemberTree, ItemTree}
use Rattle.midl_words.specs.Words.{base_by}
use Rattle.midl_words.specs.Tokens.{Is, IsThere, IsName, IsOwnName, Behind, IsDotted}
use Rattle.midl_words.specs.Reading.{is_at, is_there_at, name_at, own_name_at, behind_at, dotted_at}
use Rattle.midl_parse.specs.ReadEnums.{value_at, case_at, cases_at, enum_at}
use Rattle.midl_parse.specs.Lists.{Listed, InBraces}
use Rattle.midl_parse.specs.Types.{IsPath, IsBase, IsType, Bracketed}
use Rattle.midl_parse.specs.Imports.{IsImport}
use Rattle.midl_parse.specs.Attributes.{IsAttribute, IsGroup}
use Rattle.midl_parse.specs.Structs.{IsFields, IsStruct}
use Rattle.midl_parse.specs.Signatures.{IsParam, IsParams, IsResult, IsDelegate}
use Rattle.midl_parse.specs.Members.{IsAccessors, IsMember, IsInterface}
use Rattle.midl_parse.specs.Classes.{IsClassMember, IsClass}
use Rattle.midl_parse.specs.Items.{IsDecl, IsDeclared, SpaceWith}
use Rattle.midl_parse.specs.ReadLists.{listed_at}
use Rattle.midl_parse.specs.ReadTypes.{path_at, base_word_at, path_type_at, type_at, bracketed_at}
use Rattle.midl_parse.specs.ReadImports.{import_at}
use Rattle.midl_parse.specs.ReadAttributes.{uuid_at, version_at, flags_at, default_at, known_at, group_at}
use Rattle.midl_parse.specs.ReadStructs.{fields_at, struct_at}
use Rattle.midl_parse.specs.ReadSignatures.{param_at, params_at, void_at, some_type_at, result_at, delegate_at}
use Rattle.midl_parse.specs.ReadMembers.{set_end_at, get_first_at, set_first_at, accessors_at, method_at, property_at, properties_at, typed_at, void_member_at, event_at, typed_member_at, member_at, required_at, body_at, interface_at}
use Rattle.midl_parse.specs.ReadClasses.{own_at, static_at, based_at, constructor_at, rest_at, from_name_at, class_member_at, bases_at, class_body_at, class_at}
use Rattle.midl_parse.specs.ReadItems.{enumeration_at, structure_at, delegated_at, interfaced_at, classed_at, decl_at, declared_at, space_with}
use Rattle.midl_words.proofs.Laws.{is_reads, is_there_reads, name_reads, own_name_reads, dotted_reads, sample}
use Rattle.midl_parse.proofs.EnumLaws.{enum_reads}
use Rattle.midl_parse.proofs.MemberLaws.{IsMethod, IsTyped, IsVoidMember, IsEvent, IsSortedMember, sorted_members, IsOwn, IsFromName, IsSortedClassMember, sorted_class_members}

-- P with its reader, and P' with the one beside it
abbrev pub Both : Code → {A : Type 0} → (List Terminal → A → Type 0) → (List Terminal → A → Type 0) → (List Terminal → Read Code Terminal A) → (List Terminal → Read Code Terminal A) → List ℕ → Bool → List ℕ → Type 0
Both c = Limited c kind_of

module _ {c : Code} (other : Syntax ≡ c → ⊥) where
  pub never_is : (k : Kind) → Never c (is_at k)
  never_is k = never_one kind_of (number_of k ∷ []) Syntax other

  pub never_name : Never c name_at
  never_name = never_one kind_of names Syntax other

  pub never_own : Never c own_name_at
  never_own = never_one kind_of own_names Syntax other

  pub never_there : (k : Kind) → Never c (is_there_at k)
  unfolding is_there_at
  never_there k = never_then (never_either kind_of (number_of k ∷ []) (never_then (never_is k) (λ x. never_done (Some x))) (never_done None)) (λ mark. never_done (is_some mark))

  pub never_dotted : Never c dotted_at
  unfolding dotted_at behind_at
  never_dotted = never_then never_name (λ first. never_then (never_many kind_of (number_of Dot ∷ []) (never_then (never_is Dot) (λ mark. never_name))) (λ others. never_done (first ∷ others)))

  pub never_case : Never c case_at
  unfolding case_at value_at
  never_case = never_then never_name (λ name. never_then (never_either kind_of (number_of Equals ∷ []) (never_then (never_then (never_is Equals) (λ equals. never_then (never_there Minus) (λ negated. never_then (never_is Number) (λ number. never_done _)))) (λ x. never_done (Some x))) (never_done None)) (λ value. never_done _))

  pub never_enum : Never c enum_at
  unfolding enum_at cases_at
  never_enum = never_then (never_is Enum) (λ word. never_then never_own (λ name. never_then (never_is OpenBrace) (λ begin.
      never_then (never_either kind_of names (never_then (never_then never_case (λ first. never_then (never_trailing kind_of (number_of Comma ∷ []) names (never_is Comma) never_case) (λ others. never_done _))) (λ x. never_done (Some x))) (never_done None)) (λ cases.
      never_then (never_is CloseBrace) (λ close. never_then (never_there Semicolon) (λ end. never_done _))))))

  pub is : (k : Kind) → Both c (Is k) (Is k) (is_at k) (is_at k) (number_of k ∷ []) false []
  is k = fixed (is_reads k) (never_is k)

  pub there : (k : Kind) → Both c (IsThere k) (IsThere k) (is_there_at k) (is_there_at k) (number_of k ∷ []) true (number_of k ∷ [])
  there k = fixed (is_there_reads k) (never_there k)

  pub name : Both c IsName IsName name_at name_at names false []
  name = fixed name_reads never_name

  pub own_name : Both c IsOwnName IsOwnName own_name_at own_name_at own_names false []
  own_name = fixed own_name_reads never_own

  pub done : {A : Type 0} (x : A) → Both c (Done x) (Done x) (done_at x) (done_at x) [] true []
  done x = both_done kind_of x

  pub dotted : Both c IsDotted IsDotted dotted_at dotted_at names false (number_of Dot ∷ [])
  dotted = fixed dotted_reads never_dotted

  pub behind : {A : Type 0} {P P' : List Terminal → A → Type 0} {r r' : List Terminal → Read Code Terminal A} {f n : List ℕ} (k : Kind) → Both c P P' r r' f false n → Both c (Behind k P) (Behind k P') (behind_at k r) (behind_at k r') (number_of k ∷ []) false n
  unfolding behind_at
  behind {f = f} k item = both_then (is k) (λ mark. item) (apart_none f)

  pub listed : {A : Type 0} {P P' : List Terminal → A → Type 0} {r r' : List Terminal → Read Code Terminal A} {f n : List ℕ} → Both c P P' r r' f false n → apart (number_of Comma ∷ []) n ≡ true → Both c (Listed P) (Listed P') (listed_at r) (listed_at r') f false ((n ++ number_of Comma ∷ []) ++ n)
  unfolding listed_at
  listed item clear = both_then item (λ first. both_then (both_many (behind Comma item) clear) (λ others. done (first ∷ others)) refl) clear

  pub path : Both c IsPath IsPath path_at path_at own_names false (number_of Dot ∷ [])
  unfolding path_at
  path = both_then own_name (λ first. both_then (both_many (behind Dot name) refl) (λ others. done (first ∷ others)) refl) refl

  pub imports : Both c IsImport IsImport import_at import_at (number_of Import ∷ []) false []
  unfolding import_at
  imports = both_then (is Import) (λ word. both_then (listed (is Text) refl) (λ files. both_then (is Semicolon) (λ end. done files) refl) refl) refl

  pub base_word : Both c IsBase IsBase base_word_at base_word_at (number_of Base ∷ []) false []
  unfolding base_word_at
  base_word = both_then (is Base) (λ word. done (base (base_by word.text))) refl

  -- an attribute, with each word told apart
  pub known : Both c IsAttribute IsAttribute known_at known_at (number_of Uuid ∷ number_of Version ∷ number_of Flags ∷ number_of DefaultInterface ∷ []) false []
  unfolding known_at uuid_at version_at flags_at default_at sample
  known = both_wider (number_of Uuid ∷ number_of Version ∷ number_of Flags ∷ number_of DefaultInterface ∷ []) false [] refl refl refl
      (both_either (both_then (is Uuid) (λ word. both_then (is OpenParen) (λ begin. both_then (fixed (one_reads kind_of (number_of Guid ∷ number_of Text ∷ []) Syntax (sample Guid) refl) (never_one kind_of (number_of Guid ∷ number_of Text ∷ []) Syntax other)) (λ id. both_then (is CloseParen) (λ close. done (uuid word id)) refl) refl) refl) refl)
      (both_either (both_then (is Version) (λ word. both_then (is OpenParen) (λ begin. both_then (is Number) (λ number. both_then (is CloseParen) (λ close. done (version word number)) refl) refl) refl) refl)
      (both_either (both_then (is Flags) (λ word. done (flags word)) refl) (both_then (is DefaultInterface) (λ word. done (default_interface word)) refl) refl) refl) refl)

  -- a type, whatever base words and arguments are
  pub types : {B B' : List Terminal → TypeTree → Type 0} {b b' : List Terminal → Read Code Terminal TypeTree} {G G' : List Terminal → List TypeTree → Type 0} {g g' : List Terminal → Read Code Terminal (List TypeTree)}
      → Both c B B' b b' (number_of Base ∷ number_of Float ∷ []) false [] → Both c G G' g g' (number_of Less ∷ []) true (number_of Less ∷ []) → Both c (IsType B G) (IsType B' G') (type_at b g) (type_at b' g') names false (number_of Less ∷ number_of Dot ∷ [])
  unfolding type_at path_type_at
  types leaf args = both_wider names false (number_of Less ∷ number_of Dot ∷ []) refl refl refl
      (both_either leaf (both_then path (λ path. both_then args (λ types. done (named path (types_of types))) refl) refl) refl)

  pub bracketed : {P P' : List Terminal → TypeTree → Type 0} {r r' : List Terminal → Read Code Terminal TypeTree} → Both c P P' r r' names false (number_of Less ∷ number_of Dot ∷ []) → Both c (Bracketed P) (Bracketed P') (bracketed_at r) (bracketed_at r') (number_of Less ∷ []) false []
  unfolding bracketed_at
  bracketed item = both_then (is Less) (λ less. both_then (listed item refl) (λ types. both_then (is Greater) (λ greater. done types) refl) refl) refl

  module _ {B B' : List Terminal → TypeTree → Type 0} {b b' : List Terminal → Read Code Terminal TypeTree} {G G' : List Terminal → List TypeTree → Type 0} {g g' : List Terminal → Read Code Terminal (List TypeTree)}
      (leaf : Both c B B' b b' (number_of Base ∷ number_of Float ∷ []) false []) (args : Both c G G' g g' (number_of Less ∷ []) true (number_of Less ∷ [])) where
    pub type : Both c (IsType B G) (IsType B' G') (type_at b g) (type_at b' g') names false (number_of Less ∷ number_of Dot ∷ [])
    type = types leaf args

    pub group_of : Both c (IsFields B G) (IsFields B' G') (fields_at b g) (fields_at b' g') names false []
    unfolding fields_at
    group_of = both_then type (λ kind. both_then (listed name refl) (λ names. both_then (is Semicolon) (λ end. done _) refl) refl) refl

    pub struct : Both c (IsStruct B G) (IsStruct B' G') (struct_at b g) (struct_at b' g') (number_of Struct ∷ []) false (number_of Semicolon ∷ [])
    unfolding struct_at
    struct = both_then (is Struct) (λ word. both_then own_name (λ name. both_then (is OpenBrace) (λ begin. both_then (both_many group_of refl) (λ groups. both_then (is CloseBrace) (λ close. both_then (there Semicolon) (λ end. done _) refl) refl) refl) refl) refl) refl

    pub param : Both c (IsParam B G) (IsParam B' G') (param_at b g) (param_at b' g') (number_of Out ∷ names) false []
    unfolding param_at
    param = both_then (there Out) (λ out. both_then type (λ kind. both_then name (λ name. done _) refl) refl) refl

    pub params : Both c (IsParams B G) (IsParams B' G') (params_at b g) (params_at b' g') (number_of OpenParen ∷ []) false []
    unfolding params_at
    params = both_then (is OpenParen) (λ begin. both_then (both_perhaps (listed param refl)) (λ params. both_then (is CloseParen) (λ close. both_then (is Semicolon) (λ end. done _) refl) refl) refl) refl

    pub result : Both c (IsResult B G) (IsResult B' G') (result_at b g) (result_at b' g') (number_of Void ∷ names) false (number_of Less ∷ number_of Dot ∷ [])
    unfolding result_at void_at some_type_at
    result = both_wider (number_of Void ∷ names) false (number_of Less ∷ number_of Dot ∷ []) refl refl refl (both_either (both_then (is Void) (λ word. done None) refl) (both_then type (λ kind. done (Some kind)) refl) refl)

    pub delegates : Both c (IsDelegate B G) (IsDelegate B' G') (delegate_at b g) (delegate_at b' g') (number_of Delegate ∷ []) false []
    unfolding delegate_at
    delegates = both_then (is Delegate) (λ word. both_then result (λ result. both_then own_name (λ name. both_then params (λ params. done _) refl) refl) refl) refl

    pub accessors : Both c (IsAccessors B G) (IsAccessors B' G') (accessors_at b g) (accessors_at b' g') (number_of OpenBrace ∷ []) false (number_of Semicolon ∷ [])
    unfolding accessors_at get_first_at set_first_at set_end_at
    accessors = both_then (is OpenBrace) (λ begin. both_then
        (both_either (both_then (is Get) (λ word. both_then (is Semicolon) (λ end. both_then (both_perhaps (both_then (is Set) (λ set. is Semicolon) refl)) (λ put. done (is_some put)) refl) refl) refl)
        (both_then (is Set) (λ word. both_then (is Semicolon) (λ end. both_then (is Get) (λ get. both_then (is Semicolon) (λ last. done true) refl) refl) refl) refl) refl)
        (λ put. both_then (is CloseBrace) (λ close. both_then (there Semicolon) (λ end. done put) refl) refl) refl) refl

    pub methods : (result : Option TypeTree) (name : Terminal) → Both c (IsMethod B G result name) (IsMethod B' G' result name) (method_at b g result name) (method_at b' g' result name) (number_of OpenParen ∷ []) false []
    unfolding method_at
    methods _ _ = both_then params (λ params. done _) refl

    pub typed : (kind : TypeTree) → Both c (IsTyped B G kind) (IsTyped B' G' kind) (typed_at b g kind) (typed_at b' g' kind) names false (number_of Semicolon ∷ [])
    unfolding typed_at property_at properties_at
    typed kind = both_wider names false (number_of Semicolon ∷ []) refl refl refl
        (both_then name (λ name. both_either (methods (Some kind) name)
        (both_either (both_then accessors (λ put. done _) refl) (both_then (both_many (behind Comma name_) refl) (λ others. both_then (is Semicolon) (λ end. done _) refl) refl) refl) refl) refl)
      where
        name_ : Both c IsName IsName name_at name_at names false []
        name_ = name

    pub void_member : Both c (IsVoidMember B G) (IsVoidMember B' G') (void_member_at b g) (void_member_at b' g') (number_of Void ∷ []) false []
    unfolding void_member_at
    void_member = both_then (is Void) (λ word. both_then name (λ name. methods None name) refl) refl

    pub events : Both c (IsEvent B G) (IsEvent B' G') (event_at b g) (event_at b' g') (number_of Event ∷ []) false []
    unfolding event_at
    events = both_then (is Event) (λ word. both_then type (λ kind. both_then name (λ name. both_then (is Semicolon) (λ end. done _) refl) refl) refl) refl

    pub sorted : Both c (IsSortedMember B G) (IsSortedMember B' G') (member_at b g) (member_at b' g') (number_of Void ∷ number_of Event ∷ names) false (number_of Semicolon ∷ [])
    unfolding member_at typed_member_at
    sorted = both_wider (number_of Void ∷ number_of Event ∷ names) false (number_of Semicolon ∷ []) refl refl refl (both_either void_member (both_either events (both_then type (λ kind. typed kind) refl) refl) refl)

    pub members : Both c (IsMember B G) (IsMember B' G') (member_at b g) (member_at b' g') (number_of Void ∷ number_of Event ∷ names) false (number_of Semicolon ∷ [])
    members = both_same (turned (sorted_members B G)) (turned (sorted_members B' G')) sorted

    pub body : Both c (InBraces (IsMember B G)) (InBraces (IsMember B' G')) (body_at b g) (body_at b' g') (number_of OpenBrace ∷ []) false (number_of Semicolon ∷ [])
    unfolding body_at
    body = both_then (is OpenBrace) (λ begin. both_then (both_many members refl) (λ members. both_then (is CloseBrace) (λ close. both_then (there Semicolon) (λ end. done members) refl) refl) refl) refl

    pub interfaces : Both c (IsInterface B G) (IsInterface B' G') (interface_at b g) (interface_at b' g') (number_of Interface ∷ []) false (number_of Semicolon ∷ [])
    unfolding interface_at required_at
    interfaces = both_then (is Interface) (λ word. both_then own_name (λ name. both_then (both_perhaps (behind Requires (listed type refl))) (λ required. both_then body (λ members. done _) refl) refl) refl) refl

    pub own : (fixed_ : Bool) {P P' : List Terminal → MemberTree → Type 0} {r r' : List Terminal → Read Code Terminal MemberTree} {f n : List ℕ} → Both c P P' r r' f false n → Both c (IsOwn B G fixed_ P) (IsOwn B' G' fixed_ P') (own_at b g fixed_ r) (own_at b' g' fixed_ r') f false n
    unfolding own_at
    own fixed_ item = both_then item (λ part. done _) refl

    pub from_name : Both c (IsFromName B G) (IsFromName B' G') (from_name_at b g) (from_name_at b' g') own_names false (number_of Semicolon ∷ [])
    unfolding from_name_at constructor_at rest_at
    from_name = both_wider own_names false (number_of Semicolon ∷ []) refl refl refl
        (both_then own_name (λ name. both_either (both_then params (λ params. done _) refl)
        (both_then (both_many (behind Dot name_) refl) (λ others. both_then args (λ types. own false (typed _)) refl) refl) refl) refl)
      where
        name_ : Both c IsName IsName name_at name_at names false []
        name_ = name

    pub sorted_class : Both c (IsSortedClassMember B G) (IsSortedClassMember B' G') (class_member_at b g) (class_member_at b' g') (number_of Static ∷ number_of Void ∷ number_of Event ∷ names) false (number_of Semicolon ∷ [])
    unfolding class_member_at static_at based_at
    sorted_class = both_wider (number_of Static ∷ number_of Void ∷ number_of Event ∷ names) false (number_of Semicolon ∷ []) refl refl refl
        (both_either (both_then (is Static) (λ word. own true sorted) refl) (both_either (own false void_member) (both_either (own false events) (both_either (both_then leaf (λ kind. own false (typed kind)) refl) from_name refl) refl) refl) refl)

    pub class_members : Both c (IsClassMember B G) (IsClassMember B' G') (class_member_at b g) (class_member_at b' g') (number_of Static ∷ number_of Void ∷ number_of Event ∷ names) false (number_of Semicolon ∷ [])
    class_members = both_same (turned (sorted_class_members B G)) (turned (sorted_class_members B' G')) sorted_class

    pub class_body : Both c (InBraces (IsClassMember B G)) (InBraces (IsClassMember B' G')) (class_body_at b g) (class_body_at b' g') (number_of OpenBrace ∷ []) false (number_of Semicolon ∷ [])
    unfolding class_body_at
    class_body = both_then (is OpenBrace) (λ begin. both_then (both_many class_members refl) (λ members. both_then (is CloseBrace) (λ close. both_then (there Semicolon) (λ end. done members) refl) refl) refl) refl

    pub classes : Both c (IsClass B G) (IsClass B' G') (class_at b g) (class_at b' g') (number_of Static ∷ number_of Runtimeclass ∷ []) false (number_of Semicolon ∷ [])
    unfolding class_at bases_at
    classes = both_then (there Static) (λ fixed_. both_then (is Runtimeclass) (λ word. both_then own_name (λ name. both_then (both_perhaps (behind Colon (listed type refl))) (λ bases. both_then class_body (λ members. done _) refl) refl) refl) refl) refl

    pub decl : Both c (IsDecl B G) (IsDecl B' G') (decl_at b g) (decl_at b' g') decl_first false (number_of Semicolon ∷ [])
    unfolding decl_at enumeration_at structure_at delegated_at interfaced_at classed_at
    decl = both_wider decl_first false (number_of Semicolon ∷ []) refl refl refl
        (both_either (both_then (fixed enum_reads never_enum) (λ tree. done _) refl) (both_either (both_then struct (λ tree. done _) refl) (both_either (both_then delegates (λ tree. done _) refl) (both_either (both_then interfaces (λ tree. done _) refl) (both_then classes (λ tree. done _) refl) refl) refl) refl) refl)

    module _ {A A' : List Terminal → AttributeTree → Type 0} {a a' : List Terminal → Read Code Terminal AttributeTree} (attribute : Both c A A' a a' (number_of Base ∷ number_of Float ∷ number_of Get ∷ number_of Set ∷ number_of Name ∷ number_of Uuid ∷ number_of Version ∷ number_of Flags ∷ number_of DefaultInterface ∷ []) false []) where
      pub group : Both c (IsGroup A) (IsGroup A') (group_at a) (group_at a') (number_of OpenBracket ∷ []) false []
      unfolding group_at
      group = both_then (is OpenBracket) (λ begin. both_then (listed attribute refl) (λ attributes. both_then (is CloseBracket) (λ close. done attributes) refl) refl) refl

      pub declares : Both c (IsDeclared A B G) (IsDeclared A' B' G') (declared_at a b g) (declared_at a' b' g') declared_first false (number_of Semicolon ∷ [])
      unfolding declared_at
      declares = both_then (both_many group refl) (λ groups. both_then decl (λ tree. done _) refl) refl

  pub spaces : {P P' : List Terminal → List ItemTree → Type 0} {r r' : List Terminal → Read Code Terminal (List ItemTree)} → Both c P P' r r' (number_of Namespace ∷ declared_first) true (number_of Semicolon ∷ number_of Namespace ∷ declared_first) → Both c (SpaceWith P) (SpaceWith P') (space_with r) (space_with r') (number_of Namespace ∷ []) false (number_of Semicolon ∷ [])
  unfolding space_with
  spaces item = both_then (is Namespace) (λ word. both_then dotted (λ name. both_then (is OpenBrace) (λ begin. both_then item (λ inside. both_then (is CloseBrace) (λ close. both_then (there Semicolon) (λ end. done _) refl) refl) refl) refl) refl) refl

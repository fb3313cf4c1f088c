-- The members of interfaces and classes, sorted by the tokens that they begin with.
use Rattle.std.proofs.Common.{Bool, true, false, is_some, List, ◌∷◌, Option, Some, None}
use Rattle.grammar.specs.Productions.{Done, Then, ◌>>=◌, Optional, Many, Either}
use Rattle.grammar.proofs.Choices.{present, missing}
use Rattle.grammar.proofs.Algebra.{Same, same, turned, ◌⇒◌, in_either, in_then, then_assoc, done_then, either_then, then_either, either_assoc, either_swap, pull, pull2}
use Rattle.grammar.proofs.Limits.{fixed}
use Rattle.midl_tree.specs.declared.kind.Kind.{Kind}
use Rattle.midl_tree.specs.declared.kind.Kind.TheVariants.{Event, Static, Void, Comma, Semicolon, Dot}
use Rattle.midl_tree.specs.declared.terminal.Terminal.{Terminal}
use Rattle.midl_tree.specs.Trees.{TypeTree, named, types_of, MemberTree, method, event, properties, property, ClassMemberTree, member, constructor}
use Rattle.midl_words.specs.Tokens.{Is, IsThere, IsName, IsOwnName, Behind}
use Rattle.midl_parse.specs.Lists.{Listed}
use Rattle.midl_parse.specs.Types.{IsPath, IsType}
use Rattle.midl_parse.specs.Signatures.{IsParams, IsResult}
use Rattle.midl_parse.specs.Members.{IsAccessors, IsMember}
use Rattle.midl_parse.specs.Classes.{IsConstructor, IsClassMember}

-- a part in front of a choice, and after it
swap_in : {T A : Type 0} (P Q R : List T → A → Type 0) → Same (Either P (Either Q R)) (Either Q (Either P R))
swap_in P Q R = turned (either_assoc P Q R) ⇒ in_either (either_swap P Q) (same R) ⇒ either_assoc Q P R

-- a mark that is there or isn't
there_or_not : {B : Type 0} (k : Kind) (R : Bool → List Terminal → B → Type 0) → Same (Then (IsThere k) R) (Either (Then (Is k) (λ word. R true)) (R false))
there_or_not k R =
    pull (Optional (Is k)) (λ mark. is_some mark) R
    ⇒ in_then (record { there = missing (Is k); back = present (Is k) }) (λ o. same (R (is_some o)))
    ⇒ either_then (Then (Is k) (λ x. Done (Some x))) (Done None) (λ o. R (is_some o))
    ⇒ in_either (pull (Is k) (λ x. Some x) (λ o. R (is_some o))) (done_then None (λ o. R (is_some o)))

module _ (B : List Terminal → TypeTree → Type 0) (G : List Terminal → List TypeTree → Type 0) where
  abbrev pub IsMethod : Option TypeTree → Terminal → List Terminal → MemberTree → Type 0
  IsMethod result name = do
    params ← IsParams B G
    Done (method result name params)

  abbrev pub IsProperty : TypeTree → Terminal → List Terminal → MemberTree → Type 0
  IsProperty kind name = do
    put ← IsAccessors B G
    Done (property kind name put)

  abbrev pub IsProperties : TypeTree → Terminal → List Terminal → MemberTree → Type 0
  IsProperties kind name = do
    others ← Many (Behind Comma IsName)
    end ← Is Semicolon
    Done (properties kind (name ∷ others))

  abbrev pub IsTyped : TypeTree → List Terminal → MemberTree → Type 0
  IsTyped kind = do
    name ← IsName
    Either (IsMethod (Some kind) name) (Either (IsProperty kind name) (IsProperties kind name))

  abbrev pub IsVoidMember : List Terminal → MemberTree → Type 0
  IsVoidMember = do
    word ← Is Void
    name ← IsName
    IsMethod None name

  abbrev pub IsEvent : List Terminal → MemberTree → Type 0
  IsEvent = do
    word ← Is Event
    kind ← IsType B G
    name ← IsName
    end ← Is Semicolon
    Done (event kind name)

  abbrev pub IsSortedMember : List Terminal → MemberTree → Type 0
  IsSortedMember = Either IsVoidMember (Either IsEvent (Then (IsType B G) IsTyped))

  abbrev TypedMethod : List Terminal → MemberTree → Type 0
  TypedMethod = Then (IsType B G) (λ kind. Then IsName (λ name. IsMethod (Some kind) name))

  abbrev TypedProperty : List Terminal → MemberTree → Type 0
  TypedProperty = Then (IsType B G) (λ kind. Then IsName (λ name. IsProperty kind name))

  abbrev TypedProperties : List Terminal → MemberTree → Type 0
  TypedProperties = Then (IsType B G) (λ kind. Then IsName (λ name. IsProperties kind name))

  has_void : Same (Then (IsResult B G) (λ result. Then IsName (λ name. IsMethod result name))) (Either IsVoidMember TypedMethod)
  has_void =
      let tail = λ (result : Option TypeTree). Then IsName (λ name. IsMethod result name) in
      either_then (Then (Is Void) (λ word. Done None)) (Then (IsType B G) (λ kind. Done (Some kind))) tail
      ⇒ in_either (pull (Is Void) (λ word. None) tail) (pull (IsType B G) (λ kind. Some kind) tail)

  has_names : Same (Then (IsType B G) (λ kind. Then (Listed IsName) (λ names. Then (Is Semicolon) (λ end. Done (properties kind names))))) TypedProperties
  has_names = in_then (same (IsType B G)) (λ kind. pull2 IsName (λ name. Many (Behind Comma IsName)) (λ name others. name ∷ others) (λ names. Then (Is Semicolon) (λ end. Done (properties kind names))))

  typed_members : Same (Either TypedMethod (Either TypedProperty TypedProperties)) (Then (IsType B G) IsTyped)
  typed_members =
      let m = λ (kind : TypeTree). Then IsName (λ name. IsMethod (Some kind) name) in
      let p = λ (kind : TypeTree). Then IsName (λ name. IsProperty kind name) in
      let q = λ (kind : TypeTree). Then IsName (λ name. IsProperties kind name) in
      in_either (same TypedMethod) (then_either (IsType B G) p q)
      ⇒ then_either (IsType B G) m (λ kind. Either (p kind) (q kind))
      ⇒ in_then (same (IsType B G)) (λ kind.
      in_either (same (m kind)) (then_either IsName (λ name. IsProperty kind name) (λ name. IsProperties kind name))
      ⇒ then_either IsName (λ name. IsMethod (Some kind) name) (λ name. Either (IsProperty kind name) (IsProperties kind name)))

  pub sorted_members : Same (IsMember B G) IsSortedMember
  sorted_members =
      in_either has_void (in_either (same IsEvent) (in_either has_names (same TypedProperty)))
      ⇒ either_assoc IsVoidMember TypedMethod (Either IsEvent (Either TypedProperties TypedProperty))
      ⇒ in_either (same IsVoidMember) (
      swap_in TypedMethod IsEvent (Either TypedProperties TypedProperty)
      ⇒ in_either (same IsEvent) (in_either (same TypedMethod) (either_swap TypedProperties TypedProperty) ⇒ typed_members))

  -- ---- members of classes

  abbrev pub IsOwn : Bool → (List Terminal → MemberTree → Type 0) → List Terminal → ClassMemberTree → Type 0
  IsOwn fixed P = do
    part ← P
    Done (member fixed part)

  abbrev pub IsConstructs : Terminal → List Terminal → ClassMemberTree → Type 0
  IsConstructs name = do
    params ← IsParams B G
    Done (constructor name params)

  abbrev pub IsRest : Terminal → List Terminal → ClassMemberTree → Type 0
  IsRest name = do
    others ← Many (Behind Dot IsName)
    types ← G
    IsOwn false (IsTyped (named (name ∷ others) (types_of types)))

  abbrev pub IsFromName : List Terminal → ClassMemberTree → Type 0
  IsFromName = do
    name ← IsOwnName
    Either (IsConstructs name) (IsRest name)

  abbrev pub IsStatic : List Terminal → ClassMemberTree → Type 0
  IsStatic = do
    word ← Is Static
    IsOwn true IsSortedMember

  abbrev pub IsBased : List Terminal → ClassMemberTree → Type 0
  IsBased = do
    kind ← B
    IsOwn false (IsTyped kind)

  abbrev pub IsSortedClassMember : List Terminal → ClassMemberTree → Type 0
  IsSortedClassMember = Either IsStatic (Either (IsOwn false IsVoidMember) (Either (IsOwn false IsEvent) (Either IsBased IsFromName)))

  has_rest : {A : Type 0} (tail : TypeTree → List Terminal → A → Type 0) → Same (Then (IsType B G) tail) (Either (Then B tail) (Then IsOwnName (λ name. Then (Many (Behind Dot IsName)) (λ others. Then G (λ types. tail (named (name ∷ others) (types_of types)))))))
  has_rest tail =
      either_then B (Then IsPath (λ path. Then G (λ types. Done (named path (types_of types))))) tail
      ⇒ in_either (same (Then B tail)) (
      pull2 IsPath (λ path. G) (λ path types. named path (types_of types)) tail
      ⇒ pull2 IsOwnName (λ name. Many (Behind Dot IsName)) (λ name others. name ∷ others) (λ path. Then G (λ types. tail (named path (types_of types)))))

  own_members : Same (IsOwn false IsSortedMember) (Either (IsOwn false IsVoidMember) (Either (IsOwn false IsEvent) (Either IsBased (Then IsOwnName IsRest))))
  own_members =
      let mark = λ (part : MemberTree). Done (member false part) in
      either_then IsVoidMember (Either IsEvent (Then (IsType B G) IsTyped)) mark
      ⇒ in_either (same (IsOwn false IsVoidMember)) (
      either_then IsEvent (Then (IsType B G) IsTyped) mark
      ⇒ in_either (same (IsOwn false IsEvent)) (
      then_assoc (IsType B G) IsTyped mark
      ⇒ has_rest (λ kind. IsOwn false (IsTyped kind))))

  pub sorted_class_members : Same (IsClassMember B G) IsSortedClassMember
  sorted_class_members =
      let rest = Then IsOwnName IsRest in
      in_either (
      in_then (same (IsThere Static)) (λ fixed. in_then sorted_members (λ part. same (Done (member fixed part))))
      ⇒ there_or_not Static (λ fixed. IsOwn fixed IsSortedMember)
      ⇒ in_either (same IsStatic) own_members) (same (IsConstructor B G))
      ⇒ either_assoc IsStatic (Either (IsOwn false IsVoidMember) (Either (IsOwn false IsEvent) (Either IsBased rest))) (IsConstructor B G)
      ⇒ in_either (same IsStatic) (
      either_assoc (IsOwn false IsVoidMember) (Either (IsOwn false IsEvent) (Either IsBased rest)) (IsConstructor B G)
      ⇒ in_either (same (IsOwn false IsVoidMember)) (
      either_assoc (IsOwn false IsEvent) (Either IsBased rest) (IsConstructor B G)
      ⇒ in_either (same (IsOwn false IsEvent)) (
      either_assoc IsBased rest (IsConstructor B G)
      ⇒ in_either (same IsBased) (either_swap rest (IsConstructor B G) ⇒ then_either IsOwnName IsConstructs IsRest))))

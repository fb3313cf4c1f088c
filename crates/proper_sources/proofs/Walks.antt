-- In the tree of a file each use is within its depth, and a class has no more members than the file has tokens.
use Rattle.std.proofs.Common.{◌≡◌, ℕ, zero, suc, ◌+◌, ◌<◌, ◌≤◌, ◌^◌, List, [], ◌∷◌, Option, Some, None, inl, inr, length, sym, subst, ap, ◌∙◌, arith}
use Rattle.std.specs.Prelude.{max}
use Rattle.std.specs.List.{All}
use Rattle.std.proofs.lemmas.List.{length-append}
use Rattle.std.proofs.lemmas.List.Elements.{All-nil, All-cons, All-head, All-tail}
use Rattle.grammar.specs.Productions.{One, Then, Optional, Many, Either}
use Rattle.midl_tree.specs.declared.kind.Kind.{Kind}
use Rattle.midl_tree.specs.declared.kind.Kind.TheVariants.{Comma, Colon, Requires}
use Rattle.midl_tree.specs.declared.terminal.Terminal.{Terminal}
use Rattle.midl_tree.specs.Symbols.{kind_of}
use Rattle.midl_tree.specs.Trees.{TypeTree, base, named, TypeTrees, no_types, type_and, types_of, FieldsTree, StructTree, ParamTree, DelegateTree, MemberTree, method, event, properties, property, InterfaceTree, ClassMemberTree, member, constructor, ClassTree, DeclTree, enumeration, structure, delegate, interface, class, ItemTree, space, declared, ItemTrees, no_items, item_and, items_of, SourceTree}
use Rattle.midl_words.specs.Tokens.{Behind}
use Rattle.midl_parse.specs.Lists.{Listed, InBraces, or_none}
use Rattle.midl_parse.specs.Types.{IsBase, IsType, IsArguments}
use Rattle.midl_parse.specs.Signatures.{IsParam, IsParams, IsResult, IsDelegate}
use Rattle.midl_parse.specs.Structs.{IsFields, IsStruct}
use Rattle.midl_parse.specs.Members.{IsMember, IsInterface}
use Rattle.midl_parse.specs.Classes.{IsClassMember, IsClass}
use Rattle.midl_parse.specs.Items.{IsDecl, IsDeclared, SpaceWith, IsItems}
use Rattle.midl_parse.specs.Attributes.{IsAttribute}
use Rattle.midl_parse.specs.Files.{IsSource}

-- ---- what is said of trees

abbrev mutual
  pub tree_depth : TypeTree → ℕ
  tree_depth (base b) = 1
  tree_depth (named path arguments) = trees_depth arguments + 1

  pub trees_depth : TypeTrees → ℕ
  trees_depth no_types = 0
  trees_depth (type_and t ts) = max (tree_depth t) (trees_depth ts)

abbrev pub Fine : TypeTree → Type 0
Fine t = tree_depth t ≤ 16

abbrev pub FineResult : Option TypeTree → Type 0
FineResult None = Unit {0}
FineResult (Some t) = Fine t

abbrev pub FineParams : List ParamTree → Type 0
FineParams = All (λ (p : ParamTree). Fine p.kind)

abbrev pub FineMember : MemberTree → Type 0
FineMember (method result name params) = FineResult result × FineParams params
FineMember (event kind name) = Fine kind
FineMember (properties kind names) = Fine kind
FineMember (property kind name put) = Fine kind

abbrev pub FineClassMember : ClassMemberTree → Type 0
FineClassMember (member fixed m) = FineMember m
FineClassMember (constructor name params) = FineParams params

abbrev pub FineDecl : DeclTree → Type 0
FineDecl (enumeration e) = Unit {0}
FineDecl (structure s) = All (λ (f : FieldsTree). Fine f.kind) s.fields
FineDecl (delegate d) = FineResult d.result × FineParams d.params
FineDecl (interface i) = All Fine i.required × All FineMember i.members
FineDecl (class c) = All Fine c.bases × All FineClassMember c.members × (length c.members < 2 ^ 64)

abbrev mutual
  pub FineItem : ItemTree → Type 0
  FineItem (space name items) = FineItems items
  FineItem (declared groups tree) = FineDecl tree

  pub FineItems : ItemTrees → Type 0
  FineItems no_items = Unit {0}
  FineItems (item_and i is) = FineItem i × FineItems is

-- ---- lists

module _ {A : Type 0} (Q : A → Type 0) (P : List Terminal → A → Type 0) (each : (ts : List Terminal) (x : A) → P ts x → Q x) where
  many_each : (ts : List Terminal) (xs : List A) → Many P ts xs → All Q xs
  many_each ts [] h = All-nil Q
  many_each ts (x ∷ xs) h = All-cons Q x xs (each h.front x h.first) (many_each h.back xs h.second)

  behind_each : (k : Kind) (ts : List Terminal) (x : A) → Behind k P ts x → Q x
  behind_each k ts x h = each h.back x h.second

listed_each : {A : Type 0} (Q : A → Type 0) (P : List Terminal → A → Type 0) → ((ts : List Terminal) (x : A) → P ts x → Q x) → (ts : List Terminal) (xs : List A) → Listed P ts xs → All Q xs
listed_each Q P each ts xs h =
    subst (All Q) (sym h.second.second.value)
    (All-cons Q h.value h.second.value (each h.front h.value h.first) (many_each Q (Behind Comma P) (behind_each Q P each Comma) h.second.front h.second.value h.second.first))

-- ---- types

all_deep : (m : ℕ) (us : List TypeTree) → All (λ t. tree_depth t ≤ m) us → trees_depth (types_of us) ≤ m
all_deep m [] h = omega arith
all_deep m (u ∷ us) h = omega (arith, All-head (λ t. tree_depth t ≤ m) u us h, all_deep m us (All-tail (λ t. tree_depth t ≤ m) u us h))

base_deep : (ts : List Terminal) (t : TypeTree) → IsBase ts t → tree_depth t ≤ 1
base_deep ts t h = subst (λ t. tree_depth t ≤ 1) (sym h.second.value) (omega arith)

abbrev Flat : ℕ → (List Terminal → List TypeTree → Type 0) → Type 0
Flat n G = (ts : List Terminal) (us : List TypeTree) → G ts us → trees_depth (types_of us) ≤ n

type_deep : (n : ℕ) (G : List Terminal → List TypeTree → Type 0) → Flat n G → (ts : List Terminal) (t : TypeTree) → IsType IsBase G ts t → tree_depth t ≤ n + 1
type_deep n G flat ts t (inl h) = omega (arith, base_deep ts t h)
type_deep n G flat ts t (inr h) = subst (λ t. tree_depth t ≤ n + 1) (sym h.second.second.value) (omega (arith, flat h.second.front h.second.value h.second.first))

arguments_deep : (n : ℕ) → Flat n (IsArguments IsBase n)
arguments_deep zero ts us h = subst (λ us. trees_depth (types_of us) ≤ 0) (sym h.value) (omega arith)
arguments_deep (suc n) ts us (inl h) =
    subst (λ us. trees_depth (types_of us) ≤ suc n) (sym h.second.second.second.value)
    (all_deep (suc n) h.second.value
    (listed_each (λ t. tree_depth t ≤ suc n) (IsType IsBase (IsArguments IsBase n)) (λ ts t g. omega (arith, type_deep n (IsArguments IsBase n) (arguments_deep n) ts t g)) h.second.front h.second.value h.second.first))
arguments_deep (suc n) ts us (inr h) = subst (λ us. trees_depth (types_of us) ≤ suc n) (sym h.value) (omega arith)

-- ---- how many tokens there are

front_in : {A B : Type 0} (P : List Terminal → A → Type 0) (Q : A → List Terminal → B → Type 0) (ts : List Terminal) (y : B) (h : Then P Q ts y) → length h.front ≤ length ts
front_in P Q ts y h = omega (arith, ap length h.parts, length-append h.front h.back)

back_in : {A B : Type 0} (P : List Terminal → A → Type 0) (Q : A → List Terminal → B → Type 0) (ts : List Terminal) (y : B) (h : Then P Q ts y) → length h.back ≤ length ts
back_in P Q ts y h = omega (arith, ap length h.parts, length-append h.front h.back)

one_some : (kinds : List ℕ) (ts : List Terminal) (t : Terminal) → One kind_of kinds ts t → 1 ≤ length ts
one_some kinds ts t h = omega (arith, ap length h.alone)

many_count : {A : Type 0} (P : List Terminal → A → Type 0) → ((ts : List Terminal) (x : A) → P ts x → 1 ≤ length ts) → (ts : List Terminal) (xs : List A) → Many P ts xs → length xs ≤ length ts
many_count P some ts [] h = omega arith
many_count P some ts (x ∷ xs) h = omega (arith, ap length h.parts, length-append h.front h.back, some h.front x h.first, many_count P some h.back xs h.second)

-- each of many, where one has no more tokens than all
many_within : {A : Type 0} (n : ℕ) (Q : A → Type 0) (P : List Terminal → A → Type 0) → ((ts : List Terminal) (x : A) → length ts < n → P ts x → Q x) → (ts : List Terminal) (xs : List A) → length ts < n → Many P ts xs → All Q xs
many_within n Q P each ts [] l h = All-nil Q
many_within n Q P each ts (x ∷ xs) l h =
    let whole : length ts ≡ length h.front + length h.back = ap length h.parts ∙ length-append h.front h.back in
    All-cons Q x xs (each h.front x (omega (arith, l, whole)) h.first) (many_within n Q P each h.back xs (omega (arith, l, whole)) h.second)

-- ---- declarations

module _ (G : List Terminal → List TypeTree → Type 0) (flat : Flat 15 G) where
  type_fine : (ts : List Terminal) (t : TypeTree) → IsType IsBase G ts t → Fine t
  type_fine ts t h = omega (arith, type_deep 15 G flat ts t h)

  fields_fine : (ts : List Terminal) (f : FieldsTree) → IsFields IsBase G ts f → Fine f.kind
  fields_fine ts f h = subst (λ (f : FieldsTree). Fine f.kind) (sym h.second.second.second.value) (type_fine h.front h.value h.first)

  abbrev FineStruct : StructTree → Type 0
  FineStruct s = All (λ (f : FieldsTree). Fine f.kind) s.fields

  struct_fine : (ts : List Terminal) (s : StructTree) → IsStruct IsBase G ts s → FineStruct s
  struct_fine ts s h =
      let g = h.second.second.second in
      subst FineStruct (sym g.second.second.second.value) (many_each (λ (f : FieldsTree). Fine f.kind) (IsFields IsBase G) fields_fine g.front g.value g.first)

  param_fine : (ts : List Terminal) (p : ParamTree) → IsParam IsBase G ts p → Fine p.kind
  param_fine ts p h = subst (λ (p : ParamTree). Fine p.kind) (sym h.second.second.second.value) (type_fine h.second.front h.second.value h.second.first)

  perhaps_params : (ts : List Terminal) (ps : Option (List ParamTree)) → Optional (Listed (IsParam IsBase G)) ts ps → FineParams (or_none ps)
  perhaps_params ts None h = All-nil (λ (p : ParamTree). Fine p.kind)
  perhaps_params ts (Some ps) h = listed_each (λ (p : ParamTree). Fine p.kind) (IsParam IsBase G) param_fine ts ps h

  params_fine : (ts : List Terminal) (ps : List ParamTree) → IsParams IsBase G ts ps → FineParams ps
  params_fine ts ps h = let g = h.second in subst FineParams (sym g.second.second.second.value) (perhaps_params g.front g.value g.first)

  result_fine : (ts : List Terminal) (r : Option TypeTree) → IsResult IsBase G ts r → FineResult r
  result_fine ts r (inl h) = subst FineResult (sym h.second.value) tt
  result_fine ts r (inr h) = subst FineResult (sym h.second.value) (type_fine h.front h.value h.first)

  abbrev FineDelegate : DelegateTree → Type 0
  FineDelegate d = FineResult d.result × FineParams d.params

  delegate_fine : (ts : List Terminal) (d : DelegateTree) → IsDelegate IsBase G ts d → FineDelegate d
  delegate_fine ts d h =
      let r = h.second in
      let p = r.second.second in
      subst FineDelegate (sym p.second.value) (result_fine r.front r.value r.first, params_fine p.front p.value p.first)

  member_fine : (ts : List Terminal) (m : MemberTree) → IsMember IsBase G ts m → FineMember m
  member_fine ts m (inl h) =
      let p = h.second.second in
      subst FineMember (sym p.second.value) (result_fine h.front h.value h.first, params_fine p.front p.value p.first)
  member_fine ts m (inr (inl h)) = let k = h.second in subst FineMember (sym k.second.second.second.value) (type_fine k.front k.value k.first)
  member_fine ts m (inr (inr (inl h))) = subst FineMember (sym h.second.second.second.value) (type_fine h.front h.value h.first)
  member_fine ts m (inr (inr (inr h))) = subst FineMember (sym h.second.second.second.value) (type_fine h.front h.value h.first)

  perhaps_types : (k : Kind) (ts : List Terminal) (us : Option (List TypeTree)) → Optional (Behind k (Listed (IsType IsBase G))) ts us → All Fine (or_none us)
  perhaps_types k ts None h = All-nil Fine
  perhaps_types k ts (Some us) h = listed_each Fine (IsType IsBase G) type_fine h.back us h.second

  abbrev FineInterface : InterfaceTree → Type 0
  FineInterface i = All Fine i.required × All FineMember i.members

  interface_fine : (ts : List Terminal) (i : InterfaceTree) → IsInterface IsBase G ts i → FineInterface i
  interface_fine ts i h =
      let r = h.second.second in
      let b = r.second in
      subst FineInterface (sym b.second.value)
      (perhaps_types Requires r.front r.value r.first, braces_each FineMember (IsMember IsBase G) member_fine b.front b.value b.first)
    where
      braces_each : {A : Type 0} (Q : A → Type 0) (P : List Terminal → A → Type 0) → ((ts : List Terminal) (x : A) → P ts x → Q x) → (ts : List Terminal) (xs : List A) → InBraces P ts xs → All Q xs
      braces_each Q P each ts xs h = let m = h.second in subst (All Q) (sym m.second.second.second.value) (many_each Q P each m.front m.value m.first)

  -- a member of a class has a token
  member_some : (ts : List Terminal) (m : MemberTree) → IsMember IsBase G ts m → 1 ≤ length ts
  member_some ts m (inl h) = omega (arith, back_in _ _ ts m h, front_in _ _ h.back m h.second, one_some _ h.second.front h.second.value h.second.first)
  member_some ts m (inr (inl h)) = omega (arith, front_in _ _ ts m h, one_some _ h.front h.value h.first)
  member_some ts m (inr (inr (inl h))) =
      let names = h.second.first in
      omega (arith, back_in _ _ ts m h, front_in _ _ h.back m h.second, front_in _ _ h.second.front h.second.value names, one_some _ names.front names.value names.first)
  member_some ts m (inr (inr (inr h))) = omega (arith, back_in _ _ ts m h, front_in _ _ h.back m h.second, one_some _ h.second.front h.second.value h.second.first)

  class_member_some : (ts : List Terminal) (m : ClassMemberTree) → IsClassMember IsBase G ts m → 1 ≤ length ts
  class_member_some ts m (inl h) = omega (arith, back_in _ _ ts m h, front_in _ _ h.back m h.second, member_some h.second.front h.second.value h.second.first)
  class_member_some ts m (inr h) = omega (arith, front_in _ _ ts m h, one_some _ h.front h.value h.first)

  class_member_fine : (ts : List Terminal) (m : ClassMemberTree) → IsClassMember IsBase G ts m → FineClassMember m
  class_member_fine ts m (inl h) = let p = h.second in subst FineClassMember (sym p.second.value) (member_fine p.front p.value p.first)
  class_member_fine ts m (inr h) = let p = h.second in subst FineClassMember (sym p.second.value) (params_fine p.front p.value p.first)

  abbrev FineMembers : List ClassMemberTree → Type 0
  FineMembers ms = All FineClassMember ms × (length ms < 2 ^ 64)

  class_body : (ts : List Terminal) (ms : List ClassMemberTree) → length ts < 2 ^ 64 → InBraces (IsClassMember IsBase G) ts ms → FineMembers ms
  class_body ts ms l h =
      let m = h.second in
      let few : length m.value < 2 ^ 64 = omega (arith, l, back_in _ _ ts ms h, front_in _ _ h.back ms m, many_count (IsClassMember IsBase G) class_member_some m.front m.value m.first) in
      subst FineMembers (sym m.second.second.second.value) (many_each FineClassMember (IsClassMember IsBase G) class_member_fine m.front m.value m.first, few)

  abbrev FineClass : ClassTree → Type 0
  FineClass c = All Fine c.bases × All FineClassMember c.members × (length c.members < 2 ^ 64)

  class_fine : (ts : List Terminal) (c : ClassTree) → length ts < 2 ^ 64 → IsClass IsBase G ts c → FineClass c
  class_fine ts c l h =
      let b = h.second.second.second in
      let m = b.second in
      let short : length m.front < 2 ^ 64 = omega (arith, l, back_in _ _ ts c h, back_in _ _ h.back c h.second, back_in _ _ h.second.back c h.second.second, back_in _ _ h.second.second.back c b, front_in _ _ b.back c m) in
      let body : FineMembers m.value = class_body m.front m.value short m.first in
      subst FineClass (sym m.second.value) (perhaps_types Colon b.front b.value b.first, body.0, body.1)

  decl_fine : (ts : List Terminal) (t : DeclTree) → length ts < 2 ^ 64 → IsDecl IsBase G ts t → FineDecl t
  decl_fine ts t l (inl h) = subst FineDecl (sym h.second.value) tt
  decl_fine ts t l (inr (inl h)) = subst FineDecl (sym h.second.value) (struct_fine h.front h.value h.first)
  decl_fine ts t l (inr (inr (inl h))) = subst FineDecl (sym h.second.value) (delegate_fine h.front h.value h.first)
  decl_fine ts t l (inr (inr (inr (inl h)))) = subst FineDecl (sym h.second.value) (interface_fine h.front h.value h.first)
  decl_fine ts t l (inr (inr (inr (inr h)))) = subst FineDecl (sym h.second.value) (class_fine h.front h.value (omega (arith, l, front_in _ _ ts t h)) h.first)

  declared_fine : (ts : List Terminal) (t : ItemTree) → length ts < 2 ^ 64 → IsDeclared IsAttribute IsBase G ts t → FineItem t
  declared_fine ts t l h =
      let d = h.second in
      subst FineItem (sym d.second.value) (decl_fine d.front d.value (omega (arith, l, back_in _ _ ts t h, front_in _ _ h.back t d)) d.first)

-- ---- namespaces and files

list_fine : (is : List ItemTree) → All FineItem is → FineItems (items_of is)
list_fine [] h = tt
list_fine (i ∷ is) h = (All-head FineItem i is h, list_fine is (All-tail FineItem i is h))

space_fine : (P : List Terminal → List ItemTree → Type 0) → ((ts : List Terminal) (is : List ItemTree) → length ts < 2 ^ 64 → P ts is → All FineItem is)
    → (ts : List Terminal) (t : ItemTree) → length ts < 2 ^ 64 → SpaceWith P ts t → FineItem t
space_fine P each ts t l h =
    let i = h.second.second.second in
    let short : length i.front < 2 ^ 64 = omega (arith, l, back_in _ _ ts t h, back_in _ _ h.back t h.second, back_in _ _ h.second.back t h.second.second, front_in _ _ h.second.second.back t i) in
    subst FineItem (sym i.second.second.second.value) (list_fine i.value (each i.front i.value short i.first))

either_fine : (S D : List Terminal → ItemTree → Type 0) → ((ts : List Terminal) (t : ItemTree) → length ts < 2 ^ 64 → S ts t → FineItem t) → ((ts : List Terminal) (t : ItemTree) → length ts < 2 ^ 64 → D ts t → FineItem t)
    → (ts : List Terminal) (t : ItemTree) → length ts < 2 ^ 64 → Either S D ts t → FineItem t
either_fine S D one other ts t l (inl h) = one ts t l h
either_fine S D one other ts t l (inr h) = other ts t l h

items_fine : (D : List Terminal → ItemTree → Type 0) → ((ts : List Terminal) (t : ItemTree) → length ts < 2 ^ 64 → D ts t → FineItem t)
    → (d : ℕ) (ts : List Terminal) (is : List ItemTree) → length ts < 2 ^ 64 → IsItems D d ts is → All FineItem is
items_fine D each zero ts is l h = many_within (2 ^ 64) FineItem D each ts is l h
items_fine D each (suc d) ts is l h =
    many_within (2 ^ 64) FineItem (Either (SpaceWith (IsItems D d)) D) (either_fine (SpaceWith (IsItems D d)) D (space_fine (IsItems D d) (items_fine D each d)) each) ts is l h

abbrev pub FineSource : SourceTree → Type 0
FineSource s = All FineItem s.spaces

abbrev Declared : List Terminal → ItemTree → Type 0
Declared = IsDeclared IsAttribute IsBase (IsArguments IsBase 15)

pub source_fine : (ts : List Terminal) (s : SourceTree) → length ts < 2 ^ 64 → IsSource ts s → FineSource s
source_fine ts s l h =
    let m = h.second in
    subst FineSource (sym m.second.value)
    (many_within (2 ^ 64) FineItem (SpaceWith (IsItems Declared 15)) (space_fine (IsItems Declared 15) (items_fine Declared (declared_fine (IsArguments IsBase 15) (arguments_deep 15)) 15)) m.front m.value
    (omega (arith, l, back_in _ _ ts s h, front_in _ _ h.back s m)) m.first)

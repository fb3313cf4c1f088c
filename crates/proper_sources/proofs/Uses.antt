-- What spelled sources declare: each use within its depth, and few constructors in a class.
use Rattle.std.proofs.Common.{ℕ, ◌+◌, ◌<◌, ◌≤◌, ◌^◌, Bool, true, false, List, [], ◌∷◌, ◌++◌, Option, Some, None, map, length, sym, subst, arith}
use Rattle.std.specs.List.{All, flat_map}
use Rattle.std.specs.Option.{option_map}
use Rattle.std.proofs.lemmas.List.{length-append}
use Rattle.std.proofs.lemmas.List.Elements.{All-nil, All-cons, All-head, All-tail, All-append, All-map, All-weaker}
use Rattle.wr_base.specs.Trees.{tree_of, uses_of}
use Rattle.wr_base.proofs.TreeLaws.{tree_Plain, tree_Value, tree_Reference, tree_Inst}
use Rattle.wr_base.specs.declared.type_use.Base.TheVariants.{Object}
use Rattle.wr_base.specs.declared.type_use.TypeUse.{TypeUse}
use Rattle.wr_base.specs.declared.declaration.Field.{Field}
use Rattle.wr_base.specs.declared.declaration.Param.{Param}
use Rattle.wr_base.specs.declared.declaration.Signature.{Signature}
use Rattle.wr_base.specs.declared.declaration.Member.{Member}
use Rattle.wr_base.specs.declared.declaration.Member.TheVariants.{Method, Property, Event}
use Rattle.wr_rules.specs.Accepted.{depth, deepest}
use Rattle.midl_tree.specs.Trees.{TypeTree, base, named, TypeTrees, no_types, type_and, AttributeTree, FieldsTree, ParamTree, MemberTree, method, event, properties, property, ClassMemberTree, member, constructor, DeclTree, enumeration, structure, delegate, interface, class, ItemTree, space, declared, ItemTrees, no_items, item_and}
use Rattle.wr_base.specs.declared.declaration.Declaration.TheVariants as decls
use Rattle.placed_items.specs.declared.placed.Written.{Written}
use Rattle.placed_items.specs.declared.placed.Written.TheVariants.{Done, Class}
use Rattle.placed_items.specs.declared.placed.PlacedItem.{PlacedItem}
use Rattle.placed_items.specs.Named.{result_uses, signature_uses, member_uses, written_uses}
use Rattle.midl_names.specs.Items.{Item, Source, texts, item_at, items_in, items_among, items_of_source, items_of}
use Rattle.midl_names.specs.Lookup.{look_up, declared_sort}
use Rattle.midl_names.specs.Members.{fields_of, members_of, count_before, with_abi, named_from}
use Rattle.midl_names.specs.Resolved.{use_of, resolved, resolved_all, param_of, signature_of}
use Rattle.midl_names.specs.Uses.{dotted}
use Rattle.midl_names.specs.Declares.{members_on, members_in, constructors_of, written_by, placed_of, Declares}
use Rattle.proper_sources.specs.Spelled.{IsSpelled, AreSpelled}
use Rattle.proper_sources.proofs.Walks.{tree_depth, trees_depth, Fine, FineResult, FineParams, FineMember, FineClassMember, FineDecl, FineItem, FineItems, source_fine}

-- ---- the items of fine sources

abbrev FineAt : Item → Type 0
FineAt i = FineDecl i.tree

at_fine : (file : ℕ) (around : List (List ℕ)) (groups : List (List AttributeTree)) (t : DeclTree) → FineDecl t → All FineAt (item_at file around groups t)
at_fine file [] groups t h = All-nil FineAt
at_fine file (part ∷ parts) groups t h = All-cons FineAt (record { file = file; space = part ∷ parts; attributes = flat_map (λ g. g) groups; tree = t }) [] h (All-nil FineAt)

mutual
  in_fine : (file : ℕ) (around : List (List ℕ)) (t : ItemTree) → FineItem t → All FineAt (items_in file around t)
  in_fine file around (space name items) h = among_fine file (around ++ texts name) items h
  in_fine file around (declared groups tree) h = at_fine file around groups tree h

  among_fine : (file : ℕ) (around : List (List ℕ)) (ts : ItemTrees) → FineItems ts → All FineAt (items_among file around ts)
  among_fine file around no_items h = All-nil FineAt
  among_fine file around (item_and t ts) h = All-append FineAt (items_in file around t) (items_among file around ts) (in_fine file around t h.0) (among_fine file around ts h.1)

flat_within : {X Y : Type 0} (P : Y → Type 0) (f : X → List Y) (xs : List X) → All (λ x. All P (f x)) xs → All P (flat_map f xs)
flat_within P f [] h = All-nil P
flat_within P f (x ∷ xs) h = All-append P (f x) (flat_map f xs) (All-head (λ y. All P (f y)) x xs h) (flat_within P f xs (All-tail (λ y. All P (f y)) x xs h))

all_fine : (sources : List Source) → AreSpelled sources → All FineAt (items_of sources)
all_fine sources h = flat_within FineAt items_of_source sources (All-weaker (λ (s : Source). IsSpelled s.tree) (λ s. All FineAt (items_of_source s)) each sources h)
  where
    each : (s : Source) → IsSpelled s.tree → All FineAt (items_of_source s)
    each s h = flat_within FineAt (items_in s.file []) s.tree.spaces (All-weaker FineItem (λ t. All FineAt (items_in s.file [] t)) (in_fine s.file []) s.tree.spaces (source_fine h.tokens s.tree h.few h.spells))

-- ---- uses

abbrev pub Shallow : TypeUse → Type 0
Shallow u = depth (tree_of u) ≤ 16

of_found : (items : List Item) (around : List (List ℕ)) (path : List ℕ) (us : List TypeUse) (n : ℕ) → deepest (uses_of (map tree_of us)) ≤ n → depth (tree_of (use_of (look_up (declared_sort items) around path) us)) ≤ n + 1
of_found items around path us n h =
    elim (look_up (declared_sort items) around path) as (λ o. depth (tree_of (use_of o us)) ≤ n + 1) [
      | None ↦ subst (λ t. depth t ≤ n + 1) (sym (tree_Plain Object)) (omega arith)
      | Some x ↦ grind (arith, h, tree_Value x.name, tree_Reference x.name, tree_Inst x.name us)
    ]

module _ (given : List Item) (space : List (List ℕ)) where
  mutual
    one_deep : (t : TypeTree) → depth (tree_of (resolved (declared_sort given) space t)) ≤ tree_depth t
    one_deep (base b) = subst (λ t. depth t ≤ 1) (sym (tree_Plain b)) (omega arith)
    one_deep (named path arguments) = of_found given space (dotted path) (resolved_all (declared_sort given) space arguments) (trees_depth arguments) (all_deep arguments)

    all_deep : (ts : TypeTrees) → deepest (uses_of (map tree_of (resolved_all (declared_sort given) space ts))) ≤ trees_depth ts
    all_deep no_types = omega arith
    all_deep (type_and t ts) = omega (arith, one_deep t, all_deep ts)

  shallow : (t : TypeTree) → Fine t → Shallow (resolved (declared_sort given) space t)
  shallow t h = omega (arith, h, one_deep t)

  in_list : (ts : List TypeTree) → All Fine ts → All Shallow (map (resolved (declared_sort given) space) ts)
  in_list ts h = All-map Shallow (resolved (declared_sort given) space) ts (All-weaker Fine (λ t. Shallow (resolved (declared_sort given) space t)) shallow ts h)

  in_result : (result : Option TypeTree) → FineResult result → All Shallow (result_uses (option_map (resolved (declared_sort given) space) result))
  in_result None h = All-nil Shallow
  in_result (Some t) h = All-cons Shallow (resolved (declared_sort given) space t) [] (shallow t h) (All-nil Shallow)

  in_signature : (result : Option TypeTree) (params : List ParamTree) → FineResult result → FineParams params → All Shallow (signature_uses (signature_of (declared_sort given) space result params))
  in_signature result params r h =
      All-append Shallow (map (λ (p : Param). p.ty) (map (param_of (declared_sort given) space) params)) (result_uses (option_map (resolved (declared_sort given) space) result))
      (All-map Shallow (λ (p : Param). p.ty) (map (param_of (declared_sort given) space) params)
      (All-map (λ (p : Param). Shallow p.ty) (param_of (declared_sort given) space) params
      (All-weaker (λ (p : ParamTree). Fine p.kind) (λ (p : ParamTree). Shallow (param_of (declared_sort given) space p).ty) (λ p g. shallow p.kind g) params h)))
      (in_result result r)

  abbrev ShallowMember : Member → Type 0
  ShallowMember m = All Shallow (member_uses m)

  alone : (m : Member) → ShallowMember m → All ShallowMember (m ∷ [])
  alone m h = All-cons ShallowMember m [] h (All-nil ShallowMember)

  one : (u : TypeUse) → Shallow u → All Shallow (u ∷ [])
  one u h = All-cons Shallow u [] h (All-nil Shallow)

  of_member : (m : MemberTree) → FineMember m → All ShallowMember (members_of (declared_sort given) space m)
  of_member (method result name params) h = alone _ (in_signature result params h.0 h.1)
  of_member (event kind name) h = alone _ (one _ (shallow kind h))
  of_member (properties kind names) h = All-map ShallowMember (λ n. Property n.text (resolved (declared_sort given) space kind) true) names (λ k d l. one _ (shallow kind h))
  of_member (property kind name put) h = alone _ (one _ (shallow kind h))

  with_abi_shallow : (count : ℕ) (m : Member) → ShallowMember m → ShallowMember (with_abi count m)
  with_abi_shallow count (Method name abi sig) h = h
  with_abi_shallow count (Property name ty put) h = h
  with_abi_shallow count (Event name ty) h = h

  named_shallow : (before ms : List Member) → All ShallowMember ms → All ShallowMember (named_from before ms)
  named_shallow before [] h = All-nil ShallowMember
  named_shallow before (m ∷ ms) h =
      All-cons ShallowMember (with_abi (count_before before m) m) (named_from (before ++ m ∷ []) ms)
      (with_abi_shallow (count_before before m) m (All-head ShallowMember m ms h)) (named_shallow (before ++ m ∷ []) ms (All-tail ShallowMember m ms h))

  in_members : (ms : List MemberTree) → All FineMember ms → All Shallow (flat_map member_uses (members_in (declared_sort given) space ms))
  in_members ms h =
      flat_within Shallow member_uses (members_in (declared_sort given) space ms)
      (named_shallow [] (flat_map (members_of (declared_sort given) space) ms)
      (flat_within ShallowMember (members_of (declared_sort given) space) ms (All-weaker FineMember (λ m. All ShallowMember (members_of (declared_sort given) space m)) of_member ms h)))

  on_side : (side : Bool) (m : ClassMemberTree) → FineClassMember m → All FineMember (members_on side m)
  on_side true (member true m) h = All-cons FineMember m [] h (All-nil FineMember)
  on_side true (member false m) h = All-nil FineMember
  on_side false (member true m) h = All-nil FineMember
  on_side false (member false m) h = All-cons FineMember m [] h (All-nil FineMember)
  on_side side (constructor name params) h = All-nil FineMember

  on_sides : (side : Bool) (ms : List ClassMemberTree) → All FineClassMember ms → All FineMember (flat_map (members_on side) ms)
  on_sides side ms h = flat_within FineMember (members_on side) ms (All-weaker FineClassMember (λ m. All FineMember (members_on side m)) (on_side side) ms h)

  abbrev ShallowSignature : Signature → Type 0
  ShallowSignature s = All Shallow (signature_uses s)

  of_constructor : (m : ClassMemberTree) → FineClassMember m → All ShallowSignature (constructors_of (declared_sort given) space m)
  of_constructor (member fixed m) h = All-nil ShallowSignature
  of_constructor (constructor name params) h = All-cons ShallowSignature (signature_of (declared_sort given) space None params) [] (in_signature None params tt h) (All-nil ShallowSignature)

  in_constructors : (ms : List ClassMemberTree) → All FineClassMember ms → All Shallow (flat_map signature_uses (flat_map (constructors_of (declared_sort given) space) ms))
  in_constructors ms h =
      flat_within Shallow signature_uses (flat_map (constructors_of (declared_sort given) space) ms)
      (flat_within ShallowSignature (constructors_of (declared_sort given) space) ms (All-weaker FineClassMember (λ m. All ShallowSignature (constructors_of (declared_sort given) space m)) of_constructor ms h))

  of_fields : (f : FieldsTree) → Fine f.kind → All (λ (x : Field). Shallow x.ty) (fields_of (declared_sort given) space f)
  of_fields f h = All-map (λ (x : Field). Shallow x.ty) (λ n. record { name = n.text; ty = resolved (declared_sort given) space f.kind }) f.names (λ k d l. shallow f.kind h)

  in_fields : (fs : List FieldsTree) → All (λ (f : FieldsTree). Fine f.kind) fs → All Shallow (map (λ (x : Field). x.ty) (flat_map (fields_of (declared_sort given) space) fs))
  in_fields fs h =
      All-map Shallow (λ (x : Field). x.ty) (flat_map (fields_of (declared_sort given) space) fs)
      (flat_within (λ (x : Field). Shallow x.ty) (fields_of (declared_sort given) space) fs (All-weaker (λ (f : FieldsTree). Fine f.kind) (λ f. All (λ (x : Field). Shallow x.ty) (fields_of (declared_sort given) space f)) of_fields fs h))

  -- no more constructors than members that are written
  some_constructors : (m : ClassMemberTree) → length (constructors_of (declared_sort given) space m) ≤ 1
  some_constructors (member fixed m) = omega arith
  some_constructors (constructor name params) = omega arith

  few_constructors : (ms : List ClassMemberTree) → length (flat_map (constructors_of (declared_sort given) space) ms) ≤ length ms
  few_constructors [] = omega arith
  few_constructors (m ∷ ms) = omega (arith, length-append (constructors_of (declared_sort given) space m) (flat_map (constructors_of (declared_sort given) space) ms), some_constructors m, few_constructors ms)

-- ---- items

written_shallow : (given : List Item) (i : Item) (t : DeclTree) → FineDecl t → All Shallow (written_uses (written_by (declared_sort given) i t))
written_shallow given i (enumeration e) h = All-nil Shallow
written_shallow given i (structure s) h = in_fields given i.space s.fields h
written_shallow given i (delegate d) h = in_signature given i.space d.result d.params h.0 h.1
written_shallow given i (interface t) h =
    All-append Shallow (map (resolved (declared_sort given) i.space) t.required) (flat_map member_uses (members_in (declared_sort given) i.space t.members)) (in_list given i.space t.required h.0) (in_members given i.space t.members h.1)
written_shallow given i (class c) h =
    let listed = map (resolved (declared_sort given) i.space) c.bases in
    let makers = flat_map signature_uses (flat_map (constructors_of (declared_sort given) i.space) c.members) in
    let own = flat_map member_uses (members_in (declared_sort given) i.space (flat_map (members_on false) c.members)) in
    let statics = flat_map member_uses (members_in (declared_sort given) i.space (flat_map (members_on true) c.members)) in
    All-append Shallow (listed ++ makers ++ own) statics
    (All-append Shallow (listed ++ makers) own
    (All-append Shallow listed makers (in_list given i.space c.bases h.0) (in_constructors given i.space c.members h.1))
    (in_members given i.space (flat_map (members_on false) c.members) (on_sides given i.space false c.members h.1)))
    (in_members given i.space (flat_map (members_on true) c.members) (on_sides given i.space true c.members h.1))

-- a class has fewer than 2^64 constructors
abbrev pub HasFew : Written → Type 0
HasFew (Done d) = Unit {0}
HasFew (Class c) = length c.constructors < 2 ^ 64

written_few : (given : List Item) (i : Item) (t : DeclTree) → FineDecl t → HasFew (written_by (declared_sort given) i t)
written_few given i (enumeration e) h = tt
written_few given i (structure s) h = tt
written_few given i (delegate d) h = tt
written_few given i (interface t) h = tt
written_few given i (class c) h = omega (arith, h.2, few_constructors given i.space c.members)

-- a class is written as one
abbrev pub IsWritten : Written → Type 0
IsWritten (Done (decls.Class name version fixed default has direct factories statics)) = ⊥
IsWritten (Done d) = Unit {0}
IsWritten (Class c) = Unit {0}

written_as : (given : List Item) (i : Item) (t : DeclTree) → IsWritten (written_by (declared_sort given) i t)
written_as given i (enumeration e) = tt
written_as given i (structure s) = tt
written_as given i (delegate d) = tt
written_as given i (interface t) = tt
written_as given i (class c) = tt

-- an item of shallow uses and few constructors
pub record IsBounded (p : PlacedItem) : Type 0 where
  pub uses : All Shallow (written_uses p.item)
  pub few : HasFew p.item
  pub as_written : IsWritten p.item

pub all_bounded : (sources : List Source) → AreSpelled sources → All IsBounded (Declares sources)
all_bounded sources h =
    All-map IsBounded (placed_of (declared_sort (items_of sources))) (items_of sources)
    (All-weaker FineAt (λ i. IsBounded (placed_of (declared_sort (items_of sources)) i)) each (items_of sources) (all_fine sources h))
  where
    each : (i : Item) → FineAt i → IsBounded (placed_of (declared_sort (items_of sources)) i)
    each i g = record {
      uses = written_shallow (items_of sources) i i.tree g;
      few = written_few (items_of sources) i i.tree g;
      as_written = written_as (items_of sources) i i.tree;
    }

-- The full names in what an item declares are paths.
use Rattle.std.proofs.Common.{◌≡◌, ℕ, zero, suc, Bool, true, false, cond, IsTrue, List, [], ◌∷◌, ◌++◌, Option, Some, None, ◌⊎◌, inl, inr, ⊎_elim, map, length, take, get_or, refl, sym, subst}
use Rattle.std.specs.List.{All, flat_map}
use Rattle.std.specs.Option.{option_or, option_map}
use Rattle.std.proofs.lemmas.Option.{none-some, same_Some}
use Rattle.std.proofs.lemmas.List.Elements.{All-nil, All-cons, All-head, All-tail, All-append, All-map}
use Rattle.wr_base.specs.Paths.{is_path}
use Rattle.wr_base.specs.Trees.{tree_of, uses_of}
use Rattle.wr_base.proofs.TreeLaws.{tree_Plain, tree_Value, tree_Reference, tree_Inst}
use Rattle.wr_base.specs.declared.type_use.Base.TheVariants.{Object}
use Rattle.wr_base.specs.declared.type_use.TypeUse.{TypeUse}
use Rattle.wr_base.specs.declared.declaration.Field.{Field}
use Rattle.wr_base.specs.declared.declaration.Param.{Param}
use Rattle.wr_base.specs.declared.declaration.Signature.{Signature}
use Rattle.wr_base.specs.declared.declaration.Member.{Member}
use Rattle.wr_base.specs.declared.declaration.Member.TheVariants.{Method, Property, Event}
use Rattle.midl_tree.specs.Trees.{TypeTree, base, named, TypeTrees, no_types, type_and, FieldsTree, ParamTree, MemberTree, method, event, properties, property, ClassMemberTree, member, constructor, DeclTree, enumeration, structure, delegate, interface, class}
use Rattle.placed_items.specs.Items.{written_name}
use Rattle.placed_items.specs.Named.{HasPaths, HavePaths, result_uses, signature_uses, member_uses, written_uses, IsPathed, ArePathed}
use Rattle.midl_names.specs.declared.sort.Sort.{Sort}
use Rattle.midl_names.specs.declared.sort.Sort.TheVariants as sorts
use Rattle.midl_names.specs.declared.hit.Hit.{Hit}
use Rattle.midl_names.specs.Items.{Item, full_name, prefix}
use Rattle.midl_names.specs.Lookup.{named as named_as, hit, look_from, look_up}
use Rattle.midl_names.specs.Members.{fields_of, members_of, count_before, with_abi, named_from}
use Rattle.midl_names.specs.Resolved.{use_by, use_of, resolved, resolved_all, param_of, signature_of}
use Rattle.midl_names.specs.Uses.{dotted}
use Rattle.midl_names.specs.Declares.{members_on, members_in, constructors_of, written_by, placed_of}

-- ---- what look-up finds

pub one_of : {X : Type 0} (a b : Option X) (x : X) → option_or a b ≡ Some x → (a ≡ Some x) ⊎ (b ≡ Some x)
one_of None b x e = inr e
one_of (Some y) b x e = inl e

found_path : (b : Bool) (name : List ℕ) (o : Option Sort) (h : Hit) → is_path name ≡ b → cond b (option_map (λ s. record { name = name; sort = s }) o) None ≡ Some h → IsTrue (is_path h.name)
found_path true name None h t e = absurd (none-some h e)
found_path true name (Some s) h t e = subst (λ (x : Hit). IsTrue (is_path x.name)) (same_Some (record { name = name; sort = s }) h e) t
found_path false name o h t e = absurd (none-some h e)

module _ (known : List ℕ → Option Sort) where
  hit_path : (name : List ℕ) (h : Hit) → hit known name ≡ Some h → IsTrue (is_path h.name)
  unfolding hit
  hit_path name h e = found_path (is_path name) name (named_as known name) h refl e

  looked_path : (space : List (List ℕ)) (path : List ℕ) (k : ℕ) (h : Hit) → look_from known space path k ≡ Some h → IsTrue (is_path h.name)
  unfolding look_from
  looked_path space path zero h e = hit_path path h e
  looked_path space path (suc k) h e =
      ⊎_elim (λ a. hit_path (prefix (take (suc k) space) ++ path) h a) (λ b. looked_path space path k h b)
      (one_of (hit known (prefix (take (suc k) space) ++ path)) (look_from known space path k) h e)

-- ---- uses

abbrev Pathed : TypeUse → Type 0
Pathed u = HasPaths (tree_of u)

by_sort : (sort : Sort) (name : List ℕ) (us : List TypeUse) → IsTrue (is_path name) → HavePaths (uses_of (map tree_of us)) → Pathed (use_by sort name us)
by_sort sorts.Value name us p h = subst HasPaths (sym (tree_Value name)) p
by_sort sorts.Reference name us p h = subst HasPaths (sym (tree_Reference name)) p
by_sort (sorts.Template count) name us p h = subst HasPaths (sym (tree_Inst name us)) (p, h)

of_found : (o : Option Hit) (us : List TypeUse) → ((h : Hit) → o ≡ Some h → IsTrue (is_path h.name)) → HavePaths (uses_of (map tree_of us)) → Pathed (use_of o us)
of_found None us found h = subst HasPaths (sym (tree_Plain Object)) tt
of_found (Some x) us found h = by_sort x.sort x.name us (found x refl) h

module _ (known : List ℕ → Option Sort) (space : List (List ℕ)) where
  mutual
    resolved_path : (t : TypeTree) → Pathed (resolved known space t)
    resolved_path (base b) = subst HasPaths (sym (tree_Plain b)) tt
    resolved_path (named path arguments) =
        of_found (look_up known space (dotted path)) (resolved_all known space arguments) (λ h e. looked_path known space (dotted path) (length space) h e) (resolved_paths arguments)

    resolved_paths : (ts : TypeTrees) → HavePaths (uses_of (map tree_of (resolved_all known space ts)))
    resolved_paths no_types = tt
    resolved_paths (type_and t ts) = (resolved_path t, resolved_paths ts)

  all_resolved : (ts : List TypeTree) → All Pathed (map (resolved known space) ts)
  all_resolved ts = All-map Pathed (resolved known space) ts (λ k d l. resolved_path (get_or ts k d))

  in_result : (result : Option TypeTree) → All Pathed (result_uses (option_map (resolved known space) result))
  in_result None = All-nil Pathed
  in_result (Some t) = All-cons Pathed (resolved known space t) [] (resolved_path t) (All-nil Pathed)

  in_signature : (result : Option TypeTree) (params : List ParamTree) → All Pathed (signature_uses (signature_of known space result params))
  in_signature result params =
      All-append Pathed (map (λ (p : Param). p.ty) (map (param_of known space) params)) (result_uses (option_map (resolved known space) result))
      (All-map Pathed (λ (p : Param). p.ty) (map (param_of known space) params) (All-map (λ (p : Param). Pathed p.ty) (param_of known space) params (λ k d l. of_param (get_or params k d))))
      (in_result result)
    where
      of_param : (p : ParamTree) → Pathed (param_of known space p).ty
      of_param p = resolved_path p.kind

  one : (u : TypeUse) → Pathed u → All Pathed (u ∷ [])
  one u h = All-cons Pathed u [] h (All-nil Pathed)

-- ---- lists of lists

flat_each : {X Y : Type 0} (P : Y → Type 0) (f : X → List Y) → ((x : X) → All P (f x)) → (xs : List X) → All P (flat_map f xs)
flat_each P f h [] = All-nil P
flat_each P f h (x ∷ xs) = All-append P (f x) (flat_map f xs) (h x) (flat_each P f h xs)

pub flat_within : {X Y : Type 0} (P : Y → Type 0) (f : X → List Y) (xs : List X) → All (λ x. All P (f x)) xs → All P (flat_map f xs)
flat_within P f [] h = All-nil P
flat_within P f (x ∷ xs) h = All-append P (f x) (flat_map f xs) (All-head (λ y. All P (f y)) x xs h) (flat_within P f xs (All-tail (λ y. All P (f y)) x xs h))

-- ---- members

abbrev PathedMember : Member → Type 0
PathedMember m = All Pathed (member_uses m)

with_abi_path : (count : ℕ) (m : Member) → PathedMember m → PathedMember (with_abi count m)
with_abi_path count (Method name abi sig) h = h
with_abi_path count (Property name ty put) h = h
with_abi_path count (Event name ty) h = h

named_path : (before ms : List Member) → All PathedMember ms → All PathedMember (named_from before ms)
named_path before [] h = All-nil PathedMember
named_path before (m ∷ ms) h =
    All-cons PathedMember (with_abi (count_before before m) m) (named_from (before ++ m ∷ []) ms)
    (with_abi_path (count_before before m) m (All-head PathedMember m ms h)) (named_path (before ++ m ∷ []) ms (All-tail PathedMember m ms h))

module _ (known : List ℕ → Option Sort) (space : List (List ℕ)) where
  alone : (m : Member) → PathedMember m → All PathedMember (m ∷ [])
  alone m h = All-cons PathedMember m [] h (All-nil PathedMember)

  raw_path : (m : MemberTree) → All PathedMember (members_of known space m)
  raw_path (method result name params) = alone _ (in_signature known space result params)
  raw_path (event kind name) = alone _ (one known space _ (resolved_path known space kind))
  raw_path (properties kind names) = All-map PathedMember (λ n. Property n.text (resolved known space kind) true) names (λ k d l. one known space _ (resolved_path known space kind))
  raw_path (property kind name put) = alone _ (one known space _ (resolved_path known space kind))

  in_members : (ms : List MemberTree) → All Pathed (flat_map member_uses (members_in known space ms))
  in_members ms =
      flat_within Pathed member_uses (members_in known space ms)
      (named_path [] (flat_map (members_of known space) ms) (flat_each PathedMember (members_of known space) raw_path ms))

  of_constructor : (m : ClassMemberTree) → All (λ (s : Signature). All Pathed (signature_uses s)) (constructors_of known space m)
  of_constructor (member fixed m) = All-nil (λ (s : Signature). All Pathed (signature_uses s))
  of_constructor (constructor name params) =
      All-cons (λ (s : Signature). All Pathed (signature_uses s)) (signature_of known space None params) [] (in_signature known space None params) (All-nil (λ (s : Signature). All Pathed (signature_uses s)))

  in_constructors : (ms : List ClassMemberTree) → All Pathed (flat_map signature_uses (flat_map (constructors_of known space) ms))
  in_constructors ms =
      flat_within Pathed signature_uses (flat_map (constructors_of known space) ms) (flat_each (λ (s : Signature). All Pathed (signature_uses s)) (constructors_of known space) of_constructor ms)

  of_fields : (f : FieldsTree) → All (λ (x : Field). Pathed x.ty) (fields_of known space f)
  of_fields f = All-map (λ (x : Field). Pathed x.ty) (λ n. record { name = n.text; ty = resolved known space f.kind }) f.names (λ k d l. resolved_path known space f.kind)

  in_fields : (fs : List FieldsTree) → All Pathed (map (λ (x : Field). x.ty) (flat_map (fields_of known space) fs))
  in_fields fs = All-map Pathed (λ (x : Field). x.ty) (flat_map (fields_of known space) fs) (flat_each (λ (x : Field). Pathed x.ty) (fields_of known space) of_fields fs)

-- ---- items

written_path : (known : List ℕ → Option Sort) (i : Item) (t : DeclTree) → All Pathed (written_uses (written_by known i t))
written_path known i (enumeration e) = All-nil Pathed
written_path known i (structure s) = in_fields known i.space s.fields
written_path known i (delegate d) = in_signature known i.space d.result d.params
written_path known i (interface t) =
    All-append Pathed (map (resolved known i.space) t.required) (flat_map member_uses (members_in known i.space t.members)) (all_resolved known i.space t.required) (in_members known i.space t.members)
written_path known i (class c) =
    let listed = map (resolved known i.space) c.bases in
    let makers = flat_map signature_uses (flat_map (constructors_of known i.space) c.members) in
    let own = flat_map member_uses (members_in known i.space (flat_map (members_on false) c.members)) in
    let statics = flat_map member_uses (members_in known i.space (flat_map (members_on true) c.members)) in
    All-append Pathed (listed ++ makers ++ own) statics
    (All-append Pathed (listed ++ makers) own
    (All-append Pathed listed makers (all_resolved known i.space c.bases) (in_constructors known i.space c.members))
    (in_members known i.space (flat_map (members_on false) c.members)))
    (in_members known i.space (flat_map (members_on true) c.members))

pub own_path : (known : List ℕ → Option Sort) (i : Item) (t : DeclTree) → written_name (written_by known i t) ≡ full_name i
own_path known i (enumeration e) = refl
own_path known i (structure s) = refl
own_path known i (delegate d) = refl
own_path known i (interface t) = refl
own_path known i (class c) = refl

pub paths_fit : (known : List ℕ → Option Sort) (items : List Item) → All (λ (i : Item). IsTrue (is_path (full_name i))) items → ArePathed (map (placed_of known) items)
paths_fit known items h = All-map IsPathed (placed_of known) items (λ k d l. fit (get_or items k d) (h k d l))
  where
    fit : (i : Item) → IsTrue (is_path (full_name i)) → IsPathed (placed_of known i)
    fit i p = record { own = subst (λ (n : List ℕ). IsTrue (is_path n)) (sym (own_path known i i.tree)) p; uses = written_path known i i.tree }

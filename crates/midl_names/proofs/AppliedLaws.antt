-- Where no use is broken, each instance has an argument.
use Rattle.std.proofs.Common.{◌≡◌, ◌==◌, ◌<◌, ℕ, zero, suc, Bool, true, false, cond, List, [], ◌∷◌, ◌++◌, Option, Some, None, inr, ⊎_elim, map, length, take, get_or, refl, sym, subst, ◌∙◌, arith, eqb-true, true≢false}
use Rattle.std.specs.List.{All, flat_map}
use Rattle.std.specs.Option.{option_map}
use Rattle.std.specs.Str.{bytes_eq}
use Rattle.std.proofs.lemmas.Option.{none-some, same_Some, slice_get-get_or}
use Rattle.std.proofs.lemmas.List.Elements.{All-nil, All-cons, All-head, All-tail, All-append, All-map, All-weaker}
use Rattle.ranked.specs.Entries.{Entry}
use Rattle.ranked.specs.First.{Clear, Or, Below, At}
use Rattle.wr_base.specs.Paths.{is_path}
use Rattle.wr_base.specs.Trees.{tree_of, uses_of}
use Rattle.wr_base.proofs.TreeLaws.{tree_Plain, tree_Value, tree_Reference, tree_Inst}
use Rattle.wr_base.specs.declared.type_use.Base.TheVariants.{Object}
use Rattle.wr_base.specs.declared.type_use.TypeUse.{TypeUse}
use Rattle.wr_base.specs.declared.declaration.Field.{Field}
use Rattle.wr_base.specs.declared.declaration.Param.{Param}
use Rattle.wr_base.specs.declared.declaration.Signature.{Signature}
use Rattle.wr_base.specs.declared.declaration.Member.{Member}
use Rattle.wr_base.specs.declared.declaration.Member.TheVariants.{Method, Property, Event}
use Rattle.found_table.specs.Found.{FoundRow}
use Rattle.found_table.specs.Table.{builtin}
use Rattle.midl_tree.specs.declared.terminal.Terminal.{Terminal}
use Rattle.midl_tree.specs.Trees.{TypeTree, base, named, TypeTrees, no_types, type_and, FieldsTree, ParamTree, MemberTree, method, event, properties, property, ClassMemberTree, member, constructor, DeclTree, enumeration, structure, delegate, interface, class}
use Rattle.placed_items.specs.declared.placed.PlacedItem.{PlacedItem}
use Rattle.placed_items.specs.Named.{signature_uses, member_uses, written_uses}
use Rattle.placed_items.specs.Named as placed
use Rattle.placed_items.specs.Applied.{IsApplied, HaveApplied, AreApplied}
use Rattle.midl_names.specs.declared.sort.Sort.{Sort}
use Rattle.midl_names.specs.declared.sort.Sort.TheVariants as sorts
use Rattle.midl_names.specs.declared.hit.Hit.{Hit}
use Rattle.midl_names.specs.Items.{Item, full_name, prefix}
use Rattle.midl_names.specs.Lookup.{sort_of, taking, found_sort, arity, declared_sort, named as named_as, hit, look_from, look_up}
use Rattle.midl_names.specs.Members.{fields_of, members_of, count_before, with_abi, named_from}
use Rattle.midl_names.specs.Resolved.{use_by, use_of, resolved, resolved_all, param_of, signature_of}
use Rattle.midl_names.specs.Uses.{dotted, count_types, uses_in, uses_among, result_uses, param_uses, class_member_uses, path_fault, use_fault}
use Rattle.midl_names.specs.Uses as written
use Rattle.midl_names.specs.Faults.{Gives}
use Rattle.midl_names.specs.Names.{Broken}
use Rattle.midl_names.specs.Declares.{members_on, members_in, constructors_of, written_by, placed_of}
use Rattle.midl_names.proofs.PathLaws.{one_of, flat_within}
use Rattle.midl_names.proofs.Spread.{to}

-- ---- a template that is found takes an argument

abbrev Takes : Sort → Type 0
Takes sorts.Value = Unit {0}
Takes sorts.Reference = Unit {0}
Takes (sorts.Template count) = 0 < count

of_tree : (t : DeclTree) → Takes (sort_of t)
of_tree (enumeration e) = tt
of_tree (structure s) = tt
of_tree (delegate d) = tt
of_tree (interface i) = tt
of_tree (class c) = tt

of_choice : (b : Bool) (n : ℕ) → (n == 0) ≡ b → Takes (cond b sorts.Reference (sorts.Template n))
of_choice true n t = tt
of_choice false zero t = absurd (true≢false t)
of_choice false (suc n) t = omega arith

of_count : (n : ℕ) → Takes (taking n)
of_count n = of_choice (n == 0) n refl

of_row : (row : FoundRow) → Takes (found_sort row)
of_row (FoundRow.Struct name fields) = tt
of_row (FoundRow.Interface name arguments id members) = of_count arguments
of_row (FoundRow.Delegate name arguments id params) = of_count arguments

declared_choice : (b : Bool) (t : DeclTree) (o : Option Sort) (s : Sort) → ((x : Sort) → o ≡ Some x → Takes x) → cond b (Some (sort_of t)) o ≡ Some s → Takes s
declared_choice true t o s h e = subst Takes (same_Some (sort_of t) s e) (of_tree t)
declared_choice false t o s h e = h s e

declared_takes : (items : List Item) (name : List ℕ) (s : Sort) → declared_sort items name ≡ Some s → Takes s
declared_takes [] name s e = absurd (none-some s e)
declared_takes (i ∷ is) name s e = declared_choice (bytes_eq (full_name i) name) i.tree (declared_sort is name) s (λ x g. declared_takes is name x g) e

row_takes : (o : Option FoundRow) (s : Sort) → option_map found_sort o ≡ Some s → Takes s
row_takes None s e = absurd (none-some s e)
row_takes (Some row) s e = subst Takes (same_Some (found_sort row) s e) (of_row row)

hit_choice : (b : Bool) (name : List ℕ) (o : Option Sort) (h : Hit) → ((x : Sort) → o ≡ Some x → Takes x) → cond b (option_map (λ s. record { name = name; sort = s }) o) None ≡ Some h → Takes h.sort
hit_choice true name None h f e = absurd (none-some h e)
hit_choice true name (Some s) h f e = subst (λ (x : Hit). Takes x.sort) (same_Some (record { name = name; sort = s }) h e) (f s refl)
hit_choice false name o h f e = absurd (none-some h e)

module _ (items : List Item) where
  named_takes : (name : List ℕ) (s : Sort) → named_as (declared_sort items) name ≡ Some s → Takes s
  unfolding named_as
  named_takes name s e = ⊎_elim (λ a. declared_takes items name s a) (λ b. row_takes (builtin name) s b) (one_of (declared_sort items name) (option_map found_sort (builtin name)) s e)

  hit_takes : (name : List ℕ) (h : Hit) → hit (declared_sort items) name ≡ Some h → Takes h.sort
  unfolding hit
  hit_takes name h e = hit_choice (is_path name) name (named_as (declared_sort items) name) h (λ x g. named_takes name x g) e

  looked_takes : (space : List (List ℕ)) (path : List ℕ) (k : ℕ) (h : Hit) → look_from (declared_sort items) space path k ≡ Some h → Takes h.sort
  unfolding look_from
  looked_takes space path zero h e = hit_takes path h e
  looked_takes space path (suc k) h e =
      ⊎_elim (λ a. hit_takes (prefix (take (suc k) space) ++ path) h a) (λ b. looked_takes space path k h b)
      (one_of (hit (declared_sort items) (prefix (take (suc k) space) ++ path)) (look_from (declared_sort items) space path k) h e)

-- ---- uses

abbrev Applied : TypeUse → Type 0
Applied u = IsApplied (tree_of u)

by_sort : (sort : Sort) (name : List ℕ) (us : List TypeUse) → Takes sort → length us ≡ arity sort → HaveApplied (uses_of (map tree_of us)) → Applied (use_by sort name us)
by_sort sorts.Value name us t n h = subst IsApplied (sym (tree_Value name)) tt
by_sort sorts.Reference name us t n h = subst IsApplied (sym (tree_Reference name)) tt
by_sort (sorts.Template count) name [] t n h = absurd (omega (arith, t, n))
by_sort (sorts.Template count) name (u ∷ us) t n h = subst IsApplied (sym (tree_Inst name (u ∷ us))) h

fits : (b : Bool) (m n : ℕ) (e : Entry) → (m == n) ≡ b → cond b None (Some e) ≡ None → m ≡ n
fits true m n e t h = eqb-true m n t
fits false m n e t h = absurd (none-some e (sym h))

of_found : (item : Item) (path : List Terminal) (count : ℕ) (o : Option Hit) (us : List TypeUse) → count ≡ length us → path_fault item path count o ≡ None → ((h : Hit) → o ≡ Some h → Takes h.sort)
    → HaveApplied (uses_of (map tree_of us)) → Applied (use_of o us)
of_found item path count None us n f takes h = subst IsApplied (sym (tree_Plain Object)) tt
of_found item path count (Some x) us n f takes h = by_sort x.sort x.name us (takes x refl) (sym n ∙ fits (count == arity x.sort) count (arity x.sort) _ refl f) h

-- ---- lists

split_all : {X : Type 0} (P : X → Type 0) (xs ys : List X) → All P (xs ++ ys) → All P xs × All P ys
split_all P [] ys h = (All-nil P, h)
split_all P (x ∷ xs) ys h = let s = split_all P xs ys (All-tail P x (xs ++ ys) h) in (All-cons P x xs (All-head P x (xs ++ ys) h) s.0, s.1)

flat_split : {X Y : Type 0} (P : Y → Type 0) (f : X → List Y) (xs : List X) → All P (flat_map f xs) → All (λ x. All P (f x)) xs
flat_split P f [] h = All-nil (λ x. All P (f x))
flat_split P f (x ∷ xs) h = let s = split_all P (f x) (flat_map f xs) h in All-cons (λ y. All P (f y)) x xs s.0 (flat_split P f xs s.1)

abbrev AppliedMember : Member → Type 0
AppliedMember m = All Applied (member_uses m)

with_abi_applied : (count : ℕ) (m : Member) → AppliedMember m → AppliedMember (with_abi count m)
with_abi_applied count (Method name abi sig) h = h
with_abi_applied count (Property name ty put) h = h
with_abi_applied count (Event name ty) h = h

named_applied : (before ms : List Member) → All AppliedMember ms → All AppliedMember (named_from before ms)
named_applied before [] h = All-nil AppliedMember
named_applied before (m ∷ ms) h =
    All-cons AppliedMember (with_abi (count_before before m) m) (named_from (before ++ m ∷ []) ms)
    (with_abi_applied (count_before before m) m (All-head AppliedMember m ms h)) (named_applied (before ++ m ∷ []) ms (All-tail AppliedMember m ms h))

-- ---- an item whose uses aren't broken

module _ (items : List Item) (i : Item) where
  abbrev Fine : TypeTree → Type 0
  Fine u = use_fault (declared_sort items) i u ≡ None

  count_resolved : (ts : TypeTrees) → count_types ts ≡ length (resolved_all (declared_sort items) i.space ts)
  count_resolved no_types = refl
  count_resolved (type_and t ts) = omega (arith, count_resolved ts)

  mutual
    one_applied : (t : TypeTree) → All Fine (uses_in t) → Applied (resolved (declared_sort items) i.space t)
    one_applied (base b) h = subst IsApplied (sym (tree_Plain b)) tt
    one_applied (named path arguments) h =
        of_found i path (count_types arguments) (look_up (declared_sort items) i.space (dotted path)) (resolved_all (declared_sort items) i.space arguments)
        (count_resolved arguments)
        (All-head Fine (named path arguments) (uses_among arguments) h)
        (λ x e. looked_takes items i.space (dotted path) (length i.space) x e)
        (all_applied arguments (All-tail Fine (named path arguments) (uses_among arguments) h))

    all_applied : (ts : TypeTrees) → All Fine (uses_among ts) → HaveApplied (uses_of (map tree_of (resolved_all (declared_sort items) i.space ts)))
    all_applied no_types h = tt
    all_applied (type_and t ts) h = let s = split_all Fine (uses_in t) (uses_among ts) h in (one_applied t s.0, all_applied ts s.1)

  in_list : (ts : List TypeTree) → All Fine (flat_map uses_in ts) → All Applied (map (resolved (declared_sort items) i.space) ts)
  in_list ts h =
      All-map Applied (resolved (declared_sort items) i.space) ts
      (All-weaker (λ t. All Fine (uses_in t)) (λ t. Applied (resolved (declared_sort items) i.space t)) one_applied ts (flat_split Fine uses_in ts h))

  in_result : (result : Option TypeTree) → All Fine (result_uses result) → All Applied (placed.result_uses (option_map (resolved (declared_sort items) i.space) result))
  in_result None h = All-nil Applied
  in_result (Some t) h = All-cons Applied (resolved (declared_sort items) i.space t) [] (one_applied t h) (All-nil Applied)

  of_param : (p : ParamTree) → All Fine (uses_in p.kind) → Applied (param_of (declared_sort items) i.space p).ty
  of_param p h = one_applied p.kind h

  in_signature : (result : Option TypeTree) (params : List ParamTree) → All Fine (result_uses result) → All Fine (param_uses params) → All Applied (signature_uses (signature_of (declared_sort items) i.space result params))
  in_signature result params r h =
      All-append Applied (map (λ (p : Param). p.ty) (map (param_of (declared_sort items) i.space) params)) (placed.result_uses (option_map (resolved (declared_sort items) i.space) result))
      (All-map Applied (λ (p : Param). p.ty) (map (param_of (declared_sort items) i.space) params)
      (All-map (λ (p : Param). Applied p.ty) (param_of (declared_sort items) i.space) params
      (All-weaker (λ (p : ParamTree). All Fine (uses_in p.kind)) (λ (p : ParamTree). Applied (param_of (declared_sort items) i.space p).ty) of_param params (flat_split Fine (λ (p : ParamTree). uses_in p.kind) params h))))
      (in_result result r)

  one : (u : TypeUse) → Applied u → All Applied (u ∷ [])
  one u h = All-cons Applied u [] h (All-nil Applied)

  alone : (m : Member) → AppliedMember m → All AppliedMember (m ∷ [])
  alone m h = All-cons AppliedMember m [] h (All-nil AppliedMember)

  of_member : (m : MemberTree) → All Fine (written.member_uses m) → All AppliedMember (members_of (declared_sort items) i.space m)
  of_member (method result name params) h = let s = split_all Fine (result_uses result) (param_uses params) h in alone _ (in_signature result params s.0 s.1)
  of_member (event kind name) h = alone _ (one _ (one_applied kind h))
  of_member (properties kind names) h = All-map AppliedMember (λ n. Property n.text (resolved (declared_sort items) i.space kind) true) names (λ k d l. one _ (one_applied kind h))
  of_member (property kind name put) h = alone _ (one _ (one_applied kind h))

  in_members : (ms : List MemberTree) → All (λ m. All Fine (written.member_uses m)) ms → All Applied (flat_map member_uses (members_in (declared_sort items) i.space ms))
  in_members ms h =
      flat_within Applied member_uses (members_in (declared_sort items) i.space ms)
      (named_applied [] (flat_map (members_of (declared_sort items) i.space) ms)
      (flat_within AppliedMember (members_of (declared_sort items) i.space) ms
      (All-weaker (λ m. All Fine (written.member_uses m)) (λ m. All AppliedMember (members_of (declared_sort items) i.space m)) of_member ms h)))

  on_side : (side : Bool) (m : ClassMemberTree) → All Fine (class_member_uses m) → All (λ x. All Fine (written.member_uses x)) (members_on side m)
  on_side true (member true m) h = All-cons (λ x. All Fine (written.member_uses x)) m [] h (All-nil (λ x. All Fine (written.member_uses x)))
  on_side true (member false m) h = All-nil (λ x. All Fine (written.member_uses x))
  on_side false (member true m) h = All-nil (λ x. All Fine (written.member_uses x))
  on_side false (member false m) h = All-cons (λ x. All Fine (written.member_uses x)) m [] h (All-nil (λ x. All Fine (written.member_uses x)))
  on_side side (constructor name params) h = All-nil (λ x. All Fine (written.member_uses x))

  on_sides : (side : Bool) (ms : List ClassMemberTree) → All (λ m. All Fine (class_member_uses m)) ms → All (λ x. All Fine (written.member_uses x)) (flat_map (members_on side) ms)
  on_sides side ms h =
      flat_within (λ x. All Fine (written.member_uses x)) (members_on side) ms
      (All-weaker (λ m. All Fine (class_member_uses m)) (λ m. All (λ x. All Fine (written.member_uses x)) (members_on side m)) (on_side side) ms h)

  abbrev AppliedSignature : Signature → Type 0
  AppliedSignature s = All Applied (signature_uses s)

  of_constructor : (m : ClassMemberTree) → All Fine (class_member_uses m) → All AppliedSignature (constructors_of (declared_sort items) i.space m)
  of_constructor (member fixed m) h = All-nil AppliedSignature
  of_constructor (constructor name params) h =
      All-cons AppliedSignature (signature_of (declared_sort items) i.space None params) [] (in_signature None params (All-nil Fine) h) (All-nil AppliedSignature)

  in_constructors : (ms : List ClassMemberTree) → All (λ m. All Fine (class_member_uses m)) ms → All Applied (flat_map signature_uses (flat_map (constructors_of (declared_sort items) i.space) ms))
  in_constructors ms h =
      flat_within Applied signature_uses (flat_map (constructors_of (declared_sort items) i.space) ms)
      (flat_within AppliedSignature (constructors_of (declared_sort items) i.space) ms
      (All-weaker (λ m. All Fine (class_member_uses m)) (λ m. All AppliedSignature (constructors_of (declared_sort items) i.space m)) of_constructor ms h))

  of_fields : (f : FieldsTree) → All Fine (uses_in f.kind) → All (λ (x : Field). Applied x.ty) (fields_of (declared_sort items) i.space f)
  of_fields f h = All-map (λ (x : Field). Applied x.ty) (λ n. record { name = n.text; ty = resolved (declared_sort items) i.space f.kind }) f.names (λ k d l. one_applied f.kind h)

  in_fields : (fs : List FieldsTree) → All Fine (flat_map (λ f. uses_in f.kind) fs) → All Applied (map (λ (x : Field). x.ty) (flat_map (fields_of (declared_sort items) i.space) fs))
  in_fields fs h =
      All-map Applied (λ (x : Field). x.ty) (flat_map (fields_of (declared_sort items) i.space) fs)
      (flat_within (λ (x : Field). Applied x.ty) (fields_of (declared_sort items) i.space) fs
      (All-weaker (λ (f : FieldsTree). All Fine (uses_in f.kind)) (λ f. All (λ (x : Field). Applied x.ty) (fields_of (declared_sort items) i.space f)) of_fields fs (flat_split Fine (λ (f : FieldsTree). uses_in f.kind) fs h)))

  written_applied : (t : DeclTree) → All Fine (written.uses_of t) → All Applied (written_uses (written_by (declared_sort items) i t))
  written_applied (enumeration e) h = All-nil Applied
  written_applied (structure s) h = in_fields s.fields h
  written_applied (delegate d) h = let s = split_all Fine (result_uses d.result) (param_uses d.params) h in in_signature d.result d.params s.0 s.1
  written_applied (interface t) h =
      let s = split_all Fine (flat_map uses_in t.required) (flat_map written.member_uses t.members) h in
      All-append Applied (map (resolved (declared_sort items) i.space) t.required) (flat_map member_uses (members_in (declared_sort items) i.space t.members))
      (in_list t.required s.0) (in_members t.members (flat_split Fine written.member_uses t.members s.1))
  written_applied (class c) h =
      let s = split_all Fine (flat_map uses_in c.bases) (flat_map class_member_uses c.members) h in
      let each = flat_split Fine class_member_uses c.members s.1 in
      let listed = map (resolved (declared_sort items) i.space) c.bases in
      let makers = flat_map signature_uses (flat_map (constructors_of (declared_sort items) i.space) c.members) in
      let own = flat_map member_uses (members_in (declared_sort items) i.space (flat_map (members_on false) c.members)) in
      let statics = flat_map member_uses (members_in (declared_sort items) i.space (flat_map (members_on true) c.members)) in
      All-append Applied (listed ++ makers ++ own) statics
      (All-append Applied (listed ++ makers) own
      (All-append Applied listed makers (in_list c.bases s.0) (in_constructors c.members each))
      (in_members (flat_map (members_on false) c.members) (on_sides false c.members each)))
      (in_members (flat_map (members_on true) c.members) (on_sides true c.members each))

-- ---- all items

none_of : (o : Option Entry) → ((x : Entry) → o ≡ Some x → ⊥) → o ≡ None
none_of None h = refl
none_of (Some x) h = absurd (h x refl)

module _ (items : List Item) (clear : Clear (Broken items)) where
  fine_at : (k : ℕ) (d : Item) → k < length items → All (Fine items (get_or items k d)) (written.uses_of (get_or items k d).tree)
  unfolding Clear Or Below At Gives
  fine_at k d l m e q =
      none_of (use_fault (declared_sort items) (get_or items k d) (get_or (written.uses_of (get_or items k d).tree) m e))
      (λ x g. clear x (to items x
      (inr (
        k,
        l,
        (
          get_or items k d,
          slice_get-get_or items k d l,
          inr (inr (inr (inr (inr (m, q, (get_or (written.uses_of (get_or items k d).tree) m e, slice_get-get_or (written.uses_of (get_or items k d).tree) m e q, g)))))),
        ),
      ))))

  pub uses_applied : AreApplied (map (placed_of (declared_sort items)) items)
  uses_applied =
      All-map (λ (p : PlacedItem). All Applied (written_uses p.item)) (placed_of (declared_sort items)) items
      (λ k d l. written_applied items (get_or items k d) (get_or items k d).tree (fine_at k d l))

-- What is broken in a set is broken wherever its declarations stand.
use Rattle.std.proofs.Common.{◌≡◌, ℕ, zero, suc, ◌+◌, false, not, ◌&&◌, ◌||◌, List, [], ◌∷◌, map, length, inl, inr, ⊎_elim, refl, sym, ap, ◌∙◌}
use Rattle.ranked.specs.Entries.{Entry}
use Rattle.ranked.specs.First.{Or, Among, Then, Where, Clear}
use Rattle.wr_base.specs.Places.{part_count, numbered, plain_from}
use Rattle.wr_base.specs.declared.code.Code.TheVariants.{Unresolved, WrongKind, NotClosed, DefaultMissing, StructEmpty, FieldType, StructCycle, UseKind, ExclusiveUse, ReferenceArgument, EventType, EventDelegate, OverloadKind, MemberCase, AccessorClash, InterfaceWanted, RequiresCycle, MemberClash, StaticMembers}
use Rattle.wr_base.specs.declared.declaration.Declaration.{Declaration}
use Rattle.wr_base.specs.declared.places.DeclPlaces.{DeclPlaces}
use Rattle.wr_rules.specs.Kinds.{used, kind_used}
use Rattle.wr_rules.specs.Closures.{Chain, Holds}
use Rattle.wr_rules.specs.Sites.{Site, sites_of, site_name, spot_of, broken_at}
use Rattle.wr_rules.specs.UseRules.{unresolved, wrong_kind, no_field_type, is_bare, owned_elsewhere, is_class_here, refers_to_object, gives_back, has_kind, is_interface, is_delegate, is_by_name, is_field, is_passed, is_event, is_listed, Each, EachInside, IsUnresolved, IsWrongKind, IsFieldType, IsUseKind, IsExclusiveUse, IsReferenceArgument, IsEventType, IsEventDelegate, IsInterfaceWanted}
use Rattle.wr_rules.specs.MemberRules.{IsEnumRepeat, IsFieldRepeat, IsParamRepeat, IsEnumRange, IsStructEmpty, IsOverloadArity, IsOverloadKind, IsMemberCase, IsAccessorClash, mixes, differs_in_case, shares_abi, takes_abi, is_bare_struct}
use Rattle.wr_rules.specs.ListRules.{lacks, listed_in, misses_default, RequiresItself, Clashes, fixed_with, IsNotClosed, IsDefaultMissing, IsStructCycle, IsRequiresCycle, IsMemberClash, IsStaticMembers}
use Rattle.wr_rules.specs.FactoryRules.{IsConstructorArity, IsFactoryShape}
use Rattle.wr_rules.specs.Limits.{Limits}
use Rattle.wr_rules.specs.Accepted.{Rules, Broken}
use Rattle.place_laws.specs.Moves.{Moves}
use Rattle.place_laws.specs.Shapes.{shape, FitPlaces}
use Rattle.place_laws.proofs.MoveLaws.{clear_moved, or_moved, among_moved, if_moved, only_moved}
use Rattle.place_laws.proofs.ShapeLaws.{at_places, site_moved}
use Rattle.place_laws.proofs.RuleMoves.{each_within_moved, each_moved, each_inside_moved, enum_repeat_moved, field_repeat_moved, param_repeat_moved, enum_range_moved, overload_arity_moved, pairs_moved}
use Rattle.place_laws.proofs.FactoryMoves.{constructor_arity_moved, factory_shape_moved}
use Rattle.place_laws.proofs.NameMoves.{namespace_moved}
use Rattle.place_laws.proofs.IdMoves.{id_moved}
use Rattle.place_laws.proofs.LimitMoves.{limits_moved}

-- ---- fitting places give sites of one shape

shapes_by : (types : List Declaration) (places : List DeclPlaces) → FitPlaces types places → map shape (sites_of types places) ≡ map (λ (d : Declaration). record { decl = d; parts = part_count d }) types
shapes_by [] places e = refl
shapes_by (d ∷ ds) [] e = cc
shapes_by (d ∷ ds) (p ∷ ps) e = ap (λ n. record { decl = d; parts = n } ∷ map shape (sites_of ds ps)) (ap head e) ∙ ap (λ ss. record { decl = d; parts = part_count d } ∷ ss) (shapes_by ds ps (ap tail e))
  where
    head : List ℕ → ℕ
    head [] = 0
    head (n ∷ ns) = n

    tail : List ℕ → List ℕ
    tail [] = []
    tail (n ∷ ns) = ns

pub same_shapes : (types : List Declaration) (ps qs : List DeclPlaces) → FitPlaces types ps → FitPlaces types qs → map shape (sites_of types ps) ≡ map shape (sites_of types qs)
same_shapes types ps qs e f = shapes_by types ps e ∙ sym (shapes_by types qs f)

numbered_length : (from n : ℕ) → length (numbered from n) ≡ n
numbered_length from zero = refl
numbered_length from (suc n) = ap suc (numbered_length (from + 1) n)

pub plain_fits : (n : ℕ) (types : List Declaration) → FitPlaces types (plain_from n types)
plain_fits n [] = refl
plain_fits n (d ∷ ds) = ap (λ k. k ∷ map (λ (p : DeclPlaces). length p.parts) (plain_from (n + 1 + part_count d) ds)) (numbered_length (n + 1) (part_count d)) ∙ ap (λ ks. part_count d ∷ ks) (plain_fits (n + 1 + part_count d) ds)

-- ---- all rules

module _ (types : List Declaration) (ss ts : List Site) (e : map shape ss ≡ map shape ts) where
  at_each : (A B : Site → Entry → Type 0) → ((d : Declaration) (p q : DeclPlaces) → length p.parts ≡ length q.parts → Moves (A (at_places d p)) (B (at_places d q))) → Moves (Among ss A) (Among ts B)
  at_each A B each = among_moved shape shape ss ts A B e (λ x y i. site_moved A B each x y i)

  use_kinds : (d : Declaration) (p q : DeclPlaces) → length p.parts ≡ length q.parts → Moves (IsUseKind types (at_places d p)) (IsUseKind types (at_places d q))
  use_kinds d p q l =
      or_moved (Each types UseKind (λ u. is_passed u.role && is_bare types u.use_) (at_places d p)) (EachInside types UseKind (is_bare types) (at_places d p)) (Each types UseKind (λ u. is_passed u.role && is_bare types u.use_) (at_places d q)) (EachInside types UseKind (is_bare types) (at_places d q))
      (each_moved types d p q l UseKind (λ r u. is_passed r && is_bare types u)) (each_inside_moved types d p q l UseKind (is_bare types))

  exclusive_uses : (d : Declaration) (p q : DeclPlaces) → length p.parts ≡ length q.parts → Moves (IsExclusiveUse types (at_places d p)) (IsExclusiveUse types (at_places d q))
  exclusive_uses d p q l =
      or_moved (Each types ExclusiveUse (λ u. owned_elsewhere types (λ owner. is_listed u.role && is_class_here types d owner) (used types u.use_)) (at_places d p)) (EachInside types ExclusiveUse (λ v. owned_elsewhere types (λ owner. false) (used types v)) (at_places d p))
      (Each types ExclusiveUse (λ u. owned_elsewhere types (λ owner. is_listed u.role && is_class_here types d owner) (used types u.use_)) (at_places d q)) (EachInside types ExclusiveUse (λ v. owned_elsewhere types (λ owner. false) (used types v)) (at_places d q))
      (each_moved types d p q l ExclusiveUse (λ r u. owned_elsewhere types (λ owner. is_listed r && is_class_here types d owner) (used types u)))
      (each_inside_moved types d p q l ExclusiveUse (λ v. owned_elsewhere types (λ owner. false) (used types v)))

  pub rules_moved : Moves (Rules types ss) (Rules types ts)
  rules_moved =
      both (at_each (IsUnresolved types) (IsUnresolved types) (λ d p q l. each_within_moved types d p q l Unresolved (λ r u v. unresolved types v)))
      (both (at_each (IsWrongKind types) (IsWrongKind types) (λ d p q l. each_within_moved types d p q l WrongKind (λ r u v. not (is_by_name r) && wrong_kind types v)))
      (both (at_each (IsNotClosed types) (IsNotClosed types) (λ d p q l. if_moved (lacks types (listed_in d)) (lacks types (listed_in d)) NotClosed (spot_of (at_places d p)) (spot_of (at_places d q)) refl))
      (both (at_each (IsDefaultMissing types) (IsDefaultMissing types) (λ d p q l. if_moved (misses_default types d) (misses_default types d) DefaultMissing (spot_of (at_places d p)) (spot_of (at_places d q)) refl))
      (both (at_each IsEnumRepeat IsEnumRepeat (λ d p q l. enum_repeat_moved types d p q l))
      (both (at_each IsFieldRepeat IsFieldRepeat (λ d p q l. field_repeat_moved types d p q l))
      (both (at_each IsParamRepeat IsParamRepeat (λ d p q l. param_repeat_moved types d p q l))
      (both (at_each IsEnumRange IsEnumRange (λ d p q l. enum_range_moved types d p q l))
      (both (at_each IsStructEmpty IsStructEmpty (λ d p q l. if_moved (is_bare_struct d) (is_bare_struct d) StructEmpty (spot_of (at_places d p)) (spot_of (at_places d q)) refl))
      (both (at_each (IsFieldType types) (IsFieldType types) (λ d p q l. each_moved types d p q l FieldType (λ r u. is_field r && no_field_type types u)))
      (both (at_each (IsStructCycle types) (IsStructCycle types) (λ d p q l. only_moved (Chain (Holds types) (site_name (at_places d p)) (site_name (at_places d p))) (Chain (Holds types) (site_name (at_places d q)) (site_name (at_places d q))) (broken_at StructCycle (spot_of (at_places d p))) (broken_at StructCycle (spot_of (at_places d q))) (λ h. h)))
      (both (at_each (IsUseKind types) (IsUseKind types) use_kinds)
      (both (at_each (IsExclusiveUse types) (IsExclusiveUse types) exclusive_uses)
      (both (at_each (IsReferenceArgument types) (IsReferenceArgument types) (λ d p q l. each_within_moved types d p q l ReferenceArgument (λ r u v. refers_to_object types v)))
      (both (at_each (IsEventType types) (IsEventType types) (λ d p q l. each_moved types d p q l EventType (λ r u. is_event r && not (has_kind is_delegate (kind_used types u)))))
      (both (at_each (IsEventDelegate types) (IsEventDelegate types) (λ d p q l. each_moved types d p q l EventDelegate (λ r u. is_event r && gives_back types (used types u))))
      (both (at_each IsOverloadArity IsOverloadArity (λ d p q l. overload_arity_moved types d p q l))
      (both (at_each IsOverloadKind IsOverloadKind (λ d p q l. pairs_moved types d p q l OverloadKind mixes))
      (both (at_each IsMemberCase IsMemberCase (λ d p q l. pairs_moved types d p q l MemberCase differs_in_case))
      (both (at_each IsAccessorClash IsAccessorClash (λ d p q l. pairs_moved types d p q l AccessorClash (λ a b. shares_abi a b || takes_abi a b)))
      (both (at_each (IsInterfaceWanted types) (IsInterfaceWanted types) (λ d p q l. each_moved types d p q l InterfaceWanted (λ r u. is_listed r && not (has_kind is_interface (kind_used types u)))))
      (both (at_each (IsRequiresCycle types) (IsRequiresCycle types) (λ d p q l. only_moved (RequiresItself types d) (RequiresItself types d) (broken_at RequiresCycle (spot_of (at_places d p))) (broken_at RequiresCycle (spot_of (at_places d q))) (λ h. h)))
      (both (at_each (IsMemberClash types) (IsMemberClash types) (λ d p q l. only_moved (Clashes types d) (Clashes types d) (broken_at MemberClash (spot_of (at_places d p))) (broken_at MemberClash (spot_of (at_places d q))) (λ h. h)))
      (both (at_each (IsStaticMembers types) (IsStaticMembers types) (λ d p q l. if_moved (fixed_with types d) (fixed_with types d) StaticMembers (spot_of (at_places d p)) (spot_of (at_places d q)) refl))
      (both (at_each (IsConstructorArity ss) (IsConstructorArity ts) (λ d p q l. constructor_arity_moved types ss ts e d p q))
      (both (at_each (IsFactoryShape types ss) (IsFactoryShape types ts) (λ d p q l. factory_shape_moved types ss ts e d p q))
      (both (namespace_moved ss ts e) (id_moved types ss ts e)))))))))))))))))))))))))))
    where
      both : {A B C D : Entry → Type 0} → Moves A C → Moves B D → Moves (Or A B) (Or C D)
      both {A} {B} {C} {D} m n = or_moved A B C D m n

-- ---- phases

nothing_first : (A B : Entry → Type 0) → Clear (Then A B) → Clear A
unfolding Clear Or
nothing_first A B c = λ e a. c e (inl a)

nothing_then : (A B : Entry → Type 0) → Clear (Then A B) → Clear B
unfolding Clear Or Where
nothing_then A B c = λ e b. c e (inr ((λ o a. c o (inl a)), b))

nothing_at_all : (A B : Entry → Type 0) → Clear A → Clear B → Clear (Then A B)
unfolding Clear Or Where
nothing_at_all A B a b = λ e h. ⊎_elim (λ x. a e x) (λ w. b e w.1) h

pub clear_anywhere : (types : List Declaration) (ps qs : List DeclPlaces) → FitPlaces types ps → FitPlaces types qs → Clear (Broken types ps) → Clear (Broken types qs)
clear_anywhere types ps qs f g c =
    let ss = sites_of types ps in
    let ts = sites_of types qs in
    let e = same_shapes types qs ps g f in
    nothing_at_all (Rules types ts) (Limits ts) (clear_moved (Rules types ss) (Rules types ts) (rules_moved types ts ss e) (nothing_first (Rules types ss) (Limits ss) c))
    (clear_moved (Limits ss) (Limits ts) (limits_moved ts ss e) (nothing_then (Rules types ss) (Limits ss) c))

-- The rules in the order of the table are the rules grouped as they are asked.
use Rattle.std.proofs.Common.{◌⊎◌, inl, inr, ⊎_elim, List, Option}
use Rattle.ranked.specs.Entries.{Entry}
use Rattle.ranked.specs.First.{IsFirst, Among, Or, Below, At}
use Rattle.ranked.proofs.FirstLaws.{same}
use Rattle.wr_base.specs.declared.declaration.Declaration.{Declaration}
use Rattle.wr_rules.specs.Sites.{Site}
use Rattle.wr_rules.specs.Accepted.{Rules}
use Rattle.wr_rules.specs.UseRules.{IsUnresolved, IsWrongKind, IsFieldType, IsUseKind, IsExclusiveUse, IsReferenceArgument, IsEventType, IsEventDelegate, IsInterfaceWanted}
use Rattle.wr_rules.specs.MemberRules.{IsEnumRepeat, IsFieldRepeat, IsParamRepeat, IsEnumRange, IsStructEmpty, IsOverloadArity}
use Rattle.wr_rules.specs.ListRules.{IsDefaultMissing, IsStaticMembers}
use Rattle.site_rules.specs.SiteRules.{Depths, Stands, Names, Parts as Bodies}
use Rattle.member_faults.specs.MemberFaults.{MemberFaults}
use Rattle.type_rules.specs.Parts.{Parts, Lists}

-- behind five others
past5 : {A B C D E F : Type 0} → F → A ⊎ B ⊎ C ⊎ D ⊎ E ⊎ F
past5 f = inr (inr (inr (inr (inr f))))

module _ (types : List Declaration) (sites : List Site) where
  -- ---- from the groups to the table

  depths_to : (e : Entry) → Among sites (Depths types) e → Rules types sites e
  unfolding Or Below At
  depths_to e (k, l, (s, at, inl b)) = inl (k, l, (s, at, b))
  depths_to e (k, l, (s, at, inr (inl b))) = inr (inl (k, l, (s, at, b)))
  depths_to e (k, l, (s, at, inr (inr (inl b)))) = past5 (past5 (inr (inr (inr (inl (k, l, (s, at, b)))))))
  depths_to e (k, l, (s, at, inr (inr (inr (inl b))))) = past5 (past5 (inr (inl (k, l, (s, at, b)))))
  depths_to e (k, l, (s, at, inr (inr (inr (inr b))))) = past5 (past5 (inr (inr (inl (k, l, (s, at, b))))))

  stands_to : (e : Entry) → Among sites (Stands types) e → Rules types sites e
  unfolding Or Below At
  stands_to e (k, l, (s, at, inl b)) = past5 (inr (inr (inr (inr (inl (k, l, (s, at, b)))))))
  stands_to e (k, l, (s, at, inr (inl b))) = past5 (past5 (inr (inr (inr (inr (inl (k, l, (s, at, b))))))))
  stands_to e (k, l, (s, at, inr (inr (inl b)))) = past5 (past5 (past5 (inl (k, l, (s, at, b)))))
  stands_to e (k, l, (s, at, inr (inr (inr b)))) = past5 (past5 (past5 (past5 (inl (k, l, (s, at, b))))))

  names_to : (e : Entry) → Among sites Names e → Rules types sites e
  unfolding Or Below At
  names_to e (k, l, (s, at, inl b)) = inr (inr (inr (inr (inl (k, l, (s, at, b))))))
  names_to e (k, l, (s, at, inr (inl b))) = past5 (inl (k, l, (s, at, b)))
  names_to e (k, l, (s, at, inr (inr (inl b)))) = past5 (inr (inl (k, l, (s, at, b))))
  names_to e (k, l, (s, at, inr (inr (inr b)))) = past5 (past5 (past5 (inr (inl (k, l, (s, at, b))))))

  bodies_to : (e : Entry) → Among sites (Bodies types) e → Rules types sites e
  unfolding Or Below At
  bodies_to e (k, l, (s, at, inl b)) = past5 (inr (inr (inl (k, l, (s, at, b)))))
  bodies_to e (k, l, (s, at, inr (inl b))) = past5 (inr (inr (inr (inl (k, l, (s, at, b))))))
  bodies_to e (k, l, (s, at, inr (inr (inl b)))) = inr (inr (inr (inl (k, l, (s, at, b)))))
  bodies_to e (k, l, (s, at, inr (inr (inr b)))) = past5 (past5 (past5 (past5 (inr (inr (inr (inl (k, l, (s, at, b)))))))))

  members_to : (e : Entry) → MemberFaults types sites e → Rules types sites e
  unfolding Or
  members_to e (inl b) = past5 (past5 (past5 (inr (inr (inl b)))))
  members_to e (inr (inl b)) = past5 (past5 (past5 (inr (inr (inr (inl b))))))
  members_to e (inr (inr (inl b))) = past5 (past5 (past5 (inr (inr (inr (inr (inl b)))))))
  members_to e (inr (inr (inr (inl b)))) = past5 (past5 (past5 (past5 (inr (inr (inr (inr (inl b))))))))
  members_to e (inr (inr (inr (inr b)))) = past5 (past5 (past5 (past5 (past5 (inl b)))))

  lists_to : (e : Entry) → Lists types sites e → Rules types sites e
  unfolding Or
  lists_to e (inl b) = inr (inr (inl b))
  lists_to e (inr (inl b)) = past5 (past5 (past5 (past5 (inr (inl b)))))
  lists_to e (inr (inr b)) = past5 (past5 (past5 (past5 (inr (inr (inl b))))))

  to : (e : Entry) → Parts types sites e → Rules types sites e
  unfolding Or
  to e (inl (inl (inl (inl h)))) = depths_to e h
  to e (inl (inl (inl (inr h)))) = stands_to e h
  to e (inl (inl (inr (inl h)))) = names_to e h
  to e (inl (inl (inr (inr h)))) = bodies_to e h
  to e (inl (inr h)) = members_to e h
  to e (inr (inl (inl h))) = lists_to e h
  to e (inr (inl (inr h))) = past5 (past5 (inl h))
  to e (inr (inr (inl h))) = past5 (past5 (past5 (past5 (past5 (inr (inl h))))))
  to e (inr (inr (inr h))) = past5 (past5 (past5 (past5 (past5 (inr (inr h))))))

  -- ---- from the table to the groups

  module _ (R : Site → Entry → Type 0) (e : Entry) where
    depths : ((s : Site) → R s e → Depths types s e) → Among sites R e → Parts types sites e
    unfolding Or Below At
    depths f h = inl (inl (inl (inl (h.0, h.1, (h.2.0, h.2.1, f h.2.0 h.2.2)))))

    stands : ((s : Site) → R s e → Stands types s e) → Among sites R e → Parts types sites e
    unfolding Or Below At
    stands f h = inl (inl (inl (inr (h.0, h.1, (h.2.0, h.2.1, f h.2.0 h.2.2)))))

    names : ((s : Site) → R s e → Names s e) → Among sites R e → Parts types sites e
    unfolding Or Below At
    names f h = inl (inl (inr (inl (h.0, h.1, (h.2.0, h.2.1, f h.2.0 h.2.2)))))

    bodies : ((s : Site) → R s e → Bodies types s e) → Among sites R e → Parts types sites e
    unfolding Or Below At
    bodies f h = inl (inl (inr (inr (h.0, h.1, (h.2.0, h.2.1, f h.2.0 h.2.2)))))

  from : (e : Entry) → Rules types sites e → Parts types sites e
  unfolding Or
  from e h =
      ⊎_elim (depths (IsUnresolved types) e (λ s b. inl b)) (
      ⊎_elim (depths (IsWrongKind types) e (λ s b. inr (inl b))) (
      ⊎_elim (λ b. inr (inl (inl (inl b)))) (
      ⊎_elim (bodies (IsDefaultMissing types) e (λ s b. inr (inr (inl b)))) (
      ⊎_elim (names IsEnumRepeat e (λ s b. inl b)) (
      ⊎_elim (names IsFieldRepeat e (λ s b. inr (inl b))) (
      ⊎_elim (names IsParamRepeat e (λ s b. inr (inr (inl b)))) (
      ⊎_elim (bodies IsEnumRange e (λ s b. inl b)) (
      ⊎_elim (bodies IsStructEmpty e (λ s b. inr (inl b))) (
      ⊎_elim (stands (IsFieldType types) e (λ s b. inl b)) (
      ⊎_elim (λ b. inr (inl (inr b))) (
      ⊎_elim (depths (IsUseKind types) e (λ s b. inr (inr (inr (inl b))))) (
      ⊎_elim (depths (IsExclusiveUse types) e (λ s b. inr (inr (inr (inr b))))) (
      ⊎_elim (depths (IsReferenceArgument types) e (λ s b. inr (inr (inl b)))) (
      ⊎_elim (stands (IsEventType types) e (λ s b. inr (inl b))) (
      ⊎_elim (stands (IsEventDelegate types) e (λ s b. inr (inr (inl b)))) (
      ⊎_elim (names IsOverloadArity e (λ s b. inr (inr (inr b)))) (
      ⊎_elim (λ b. inl (inr (inl b))) (
      ⊎_elim (λ b. inl (inr (inr (inl b)))) (
      ⊎_elim (λ b. inl (inr (inr (inr (inl b))))) (
      ⊎_elim (stands (IsInterfaceWanted types) e (λ s b. inr (inr (inr b)))) (
      ⊎_elim (λ b. inr (inl (inl (inr (inl b))))) (
      ⊎_elim (λ b. inr (inl (inl (inr (inr b))))) (
      ⊎_elim (bodies (IsStaticMembers types) e (λ s b. inr (inr (inr b)))) (
      ⊎_elim (λ b. inl (inr (inr (inr (inr (inl b)))))) (
      ⊎_elim (λ b. inl (inr (inr (inr (inr (inr b)))))) (
      λ b. inr (inr b))))))))))))))))))))))))))) h

  pub rules_first : (r : Option Entry) → IsFirst (Parts types sites) r → IsFirst (Rules types sites) r
  rules_first r h = same (Parts types sites) (Rules types sites) r to from h

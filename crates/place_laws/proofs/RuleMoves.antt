-- Each rule that is broken at one declaration is broken there wherever it stands.
use Rattle.std.proofs.Common.{◌≡◌, ◌<◌, ℕ, Bool, not, IsTrue, List, [], ◌∷◌, map, length, refl, sym, ap, subst, ◌∙◌}
use Rattle.std.specs.List.{filter_map, flat_map}
use Rattle.ranked.specs.First.{Below, At, Among, Only}
use Rattle.wr_base.specs.declared.code.Code.{Code}
use Rattle.wr_base.specs.declared.code.Code.TheVariants.{EnumRepeat, FieldRepeat, ParamRepeat, EnumRange, OverloadArity}
use Rattle.wr_base.specs.declared.declaration.Declaration.{Declaration}
use Rattle.wr_base.specs.declared.declaration.Signature.{Signature}
use Rattle.wr_base.specs.declared.declaration.Member.{Member}
use Rattle.wr_base.specs.declared.declaration.Member.TheVariants.{Method, Property, Event}
use Rattle.wr_base.specs.declared.declaration.Case.{Case}
use Rattle.wr_base.specs.declared.declaration.Field.{Field}
use Rattle.wr_base.specs.declared.places.DeclPlaces.{DeclPlaces}
use Rattle.wr_base.specs.Trees.{UseTree, within}
use Rattle.wr_rules.specs.Sites.{Spot, If, broken_at}
use Rattle.wr_rules.specs.Members.{Standing, members_at, cases_at, fields_at}
use Rattle.wr_base.specs.Lower.{lower}
use Rattle.wr_rules.specs.Uses.{Role, uses_at}
use Rattle.wr_rules.specs.UseRules.{EachWithin, Each, EachInside, inner}
use Rattle.wr_rules.specs.MemberRules.{IsEnumRepeat, IsFieldRepeat, IsParamRepeat, IsEnumRange, IsOverloadArity, EachPaired, fits, is_flags, signatures_at, overload_of}
use Rattle.place_laws.specs.Moves.{Moves}
use Rattle.place_laws.specs.Shapes.{Bare, bare}
use Rattle.place_laws.proofs.MoveLaws.{among_moved, repeated_moved, if_moved, other_at, as_long}
use Rattle.place_laws.proofs.ShapeLaws.{at_places, members_alike, cases_alike, fields_alike, signatures_alike, uses_alike, member_part, signature_part, images_alike}

-- ---- uses

within_moved : (f g : UseTree → Bool) (code : Code) (p q : Spot) (vs ws : List UseTree) → vs ≡ ws → ((v : UseTree) → f v ≡ g v) → Moves (Among vs (λ v. If (f v) code p)) (Among ws (λ v. If (g v) code q))
within_moved f g code p q vs ws e same =
    among_moved (λ v. v) (λ v. v) vs ws (λ v. If (f v) code p) (λ v. If (g v) code q) (ap (map (λ v. v)) e) (λ x y i. if_moved (f x) (g y) code p q (same x ∙ ap g i))

module _ (types : List Declaration) (d : Declaration) (p q : DeclPlaces) (e : length p.parts ≡ length q.parts) where
  pub each_within_moved : (code : Code) (test : Role → UseTree → UseTree → Bool) → Moves (EachWithin types code (λ u v. test u.role u.use_ v) (at_places d p)) (EachWithin types code (λ u v. test u.role u.use_ v) (at_places d q))
  each_within_moved code test =
      among_moved bare bare (uses_at (at_places d p)) (uses_at (at_places d q)) (λ u. Among (within u.use_) (λ v. If (test u.role u.use_ v) code u.spot)) (λ u. Among (within u.use_) (λ v. If (test u.role u.use_ v) code u.spot)) (uses_alike d p q e)
      (λ x y i. within_moved (test x.role x.use_) (test y.role y.use_) code x.spot y.spot (within x.use_) (within y.use_) (ap (λ (b : Bare). within b.use_) i) (λ v. ap (λ (b : Bare). test b.role b.use_ v) i))

  pub each_moved : (code : Code) (test : Role → UseTree → Bool) → Moves (Each types code (λ u. test u.role u.use_) (at_places d p)) (Each types code (λ u. test u.role u.use_) (at_places d q))
  each_moved code test =
      among_moved bare bare (uses_at (at_places d p)) (uses_at (at_places d q)) (λ u. If (test u.role u.use_) code u.spot) (λ u. If (test u.role u.use_) code u.spot) (uses_alike d p q e)
      (λ x y i. if_moved (test x.role x.use_) (test y.role y.use_) code x.spot y.spot (ap (λ (b : Bare). test b.role b.use_) i))

  pub each_inside_moved : (code : Code) (test : UseTree → Bool) → Moves (EachInside types code test (at_places d p)) (EachInside types code test (at_places d q))
  each_inside_moved code test =
      among_moved bare bare (uses_at (at_places d p)) (uses_at (at_places d q)) (λ u. Among (inner u.use_) (λ v. If (test v) code u.spot)) (λ u. Among (inner u.use_) (λ v. If (test v) code u.spot)) (uses_alike d p q e)
      (λ x y i. within_moved test test code x.spot y.spot (inner x.use_) (inner y.use_) (ap (λ (b : Bare). inner b.use_) i) (λ v. refl))

  -- ---- parts

  pub enum_repeat_moved : Moves (IsEnumRepeat (at_places d p)) (IsEnumRepeat (at_places d q))
  enum_repeat_moved = repeated_moved (λ (c : Standing Case). lower c.part.name) (λ (c : Standing Case). lower c.part.name) (λ c. broken_at EnumRepeat c.spot) (λ c. broken_at EnumRepeat c.spot) (cases_at (at_places d p)) (cases_at (at_places d q))
      (images_alike (λ (c : Standing Case). c.part) (λ (c : Standing Case). lower c.part.name) (λ (c : Case). lower c.name) (λ x. refl) (cases_at (at_places d p)) (cases_at (at_places d q)) (cases_alike d p q e))

  pub field_repeat_moved : Moves (IsFieldRepeat (at_places d p)) (IsFieldRepeat (at_places d q))
  field_repeat_moved = repeated_moved (λ (c : Standing Field). lower c.part.name) (λ (c : Standing Field). lower c.part.name) (λ c. broken_at FieldRepeat c.spot) (λ c. broken_at FieldRepeat c.spot) (fields_at (at_places d p)) (fields_at (at_places d q))
      (images_alike (λ (c : Standing Field). c.part) (λ (c : Standing Field). lower c.part.name) (λ (c : Field). lower c.name) (λ x. refl) (fields_at (at_places d p)) (fields_at (at_places d q)) (fields_alike d p q e))

  pub param_repeat_moved : Moves (IsParamRepeat (at_places d p)) (IsParamRepeat (at_places d q))
  param_repeat_moved = among_moved signature_part signature_part (signatures_at (at_places d p)) (signatures_at (at_places d q)) _ _ (signatures_alike d p q e)
      (λ x y i. repeated_moved (λ p. lower p.name) (λ p. lower p.name) (λ p. broken_at ParamRepeat x.spot) (λ p. broken_at ParamRepeat y.spot) x.part.params y.part.params (ap (λ (s : Signature). map (λ p. lower p.name) s.params) i))

  pub enum_range_moved : Moves (IsEnumRange (at_places d p)) (IsEnumRange (at_places d q))
  enum_range_moved = among_moved (λ (c : Standing Case). c.part) (λ (c : Standing Case). c.part) (cases_at (at_places d p)) (cases_at (at_places d q)) (λ c. If (not (fits (is_flags d) c.part.value)) EnumRange c.spot) (λ c. If (not (fits (is_flags d) c.part.value)) EnumRange c.spot) (cases_alike d p q e)
      (λ x y i. if_moved (not (fits (is_flags d) x.part.value)) (not (fits (is_flags d) y.part.value)) EnumRange x.spot y.spot (ap (λ (c : Case). not (fits (is_flags d) c.value)) i))

  overloads_alike : map (λ (o : Standing (List ℕ)). o.part) (filter_map overload_of (members_at (at_places d p))) ≡ map (λ (o : Standing (List ℕ)). o.part) (filter_map overload_of (members_at (at_places d q)))
  overloads_alike = by_parts (members_at (at_places d p)) ∙ ap (flat_map keys_of) (members_alike d p q e) ∙ sym (by_parts (members_at (at_places d q)))
    where
      keys_of : Member → List (List ℕ)
      keys_of (Method name abi sig) = (length sig.params ∷ lower name) ∷ []
      keys_of (Property name ty put) = []
      keys_of (Event name ty) = []

      by_parts : (ms : List (Standing Member)) → map (λ (o : Standing (List ℕ)). o.part) (filter_map overload_of ms) ≡ flat_map keys_of (map member_part ms)
      by_parts [] = refl
      by_parts (m ∷ ms) = elim m.part as (λ x. map (λ (o : Standing (List ℕ)). o.part) (filter_map overload_of (record { part = x; spot = m.spot } ∷ ms)) ≡ flat_map keys_of (x ∷ map member_part ms)) [
        | Method name abi sig ↦ ap (λ zs. (length sig.params ∷ lower name) ∷ zs) (by_parts ms)
        | Property name ty put ↦ by_parts ms
        | Event name ty ↦ by_parts ms
      ]

  pub overload_arity_moved : Moves (IsOverloadArity (at_places d p)) (IsOverloadArity (at_places d q))
  overload_arity_moved = repeated_moved (λ (o : Standing (List ℕ)). o.part) (λ (o : Standing (List ℕ)). o.part) (λ o. broken_at OverloadArity o.spot) (λ o. broken_at OverloadArity o.spot) (filter_map overload_of (members_at (at_places d p))) (filter_map overload_of (members_at (at_places d q))) overloads_alike

  paired_moved : (code : Code) (test : Member → Member → Bool) (xs ys : List (Standing Member)) → map member_part xs ≡ map member_part ys → Moves (EachPaired code test xs) (EachPaired code test ys)
  unfolding Below At Only
  paired_moved code test xs ys same = λ o h.
      let i = h.0 in
      let t = other_at member_part member_part xs ys same i h.2.0 h.2.1 in
      let b = h.2.2.0 in
      let u = other_at member_part member_part xs ys same b.j b.b b.at in (
        broken_at code t.0.spot,
        (
          i,
          subst (λ n. i < n) (as_long member_part member_part xs ys same) h.1,
          (
            t.0,
            t.1,
            (
              record {
                j = b.j;
                b = u.0;
                at = u.1;
                apart = b.apart;
                so = subst (λ (m : Member). IsTrue (test t.0.part m)) u.2 (subst (λ (m : Member). IsTrue (test m b.b.part)) t.2 b.so);
              },
              refl,
            ),
          ),
        ),
      )

  pub pairs_moved : (code : Code) (test : Member → Member → Bool) → Moves (EachPaired code test (members_at (at_places d p))) (EachPaired code test (members_at (at_places d q)))
  pairs_moved code test = paired_moved code test (members_at (at_places d p)) (members_at (at_places d q)) (members_alike d p q e)

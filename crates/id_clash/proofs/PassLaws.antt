-- The pass in order tells of each declaration whether an id of it is taken.
use Rattle.std.proofs.Common.{◌≡◌, ◌⊎◌, ⊎_elim, inl, inr, ◌↔◌, ◌<◌, ◌+◌, ◌&&◌, ℕ, zero, suc, Bool, true, false, IsTrue, List, [], ◌∷◌, ◌++◌, Option, Some, None, Contains, length, map, slice_get, refl, sym, ap, subst, ◌∙◌, arith, true≢false, if◌then◌else◌}
use Rattle.std.specs.List.{list_all, flat_map, filter_map}
use Rattle.std.specs.Option.{option_map, option_flatten}
use Rattle.std.proofs.lemmas.Bool.{false≢true, cases_Bool}
use Rattle.std.proofs.lemmas.Option.{none-some, same_Some, slice_get_within}
use Rattle.std.proofs.lemmas.List.Folds.{list_all-append}
use Rattle.ranked.specs.Entries.{Entry}
use Rattle.ranked.specs.First.{IsFirst, Below, At, Only}
use Rattle.ranked.proofs.FirstLaws.{same}
use Rattle.wr_base.specs.Paths.{is_path}
use Rattle.wr_base.specs.Declarations.{IsInOrder}
use Rattle.wr_base.specs.declared.code.Code.TheVariants.{DuplicateId}
use Rattle.wr_base.specs.declared.declaration.Declaration.{Declaration}
use Rattle.wr_base.specs.declared.places.DeclPlaces.{DeclPlaces}
use Rattle.wr_base.specs.Trees.{UseTree, plain, value, reference, instance, text_of_tree, within}
use Rattle.wr_rules.specs.Kinds.{declared}
use Rattle.wr_rules.specs.Sites.{Site, sites_of, site_name, spot_of, broken_at, StandsBefore, If}
use Rattle.wr_rules.specs.Signatures.{own_id, id_of}
use Rattle.wr_rules.specs.Uses.{Used, uses_at}
use Rattle.wr_rules.specs.NameRules.{reserved_ids, is_instance, instances_at, instances_in, UsesText, first_of, FirstUses, Stands, own, first_used, IsTaken, IsDuplicateId}
use Rattle.place_laws.proofs.OrderLaws.{apart_before}
use Rattle.struct_cycles.specs.Places.{place_in}
use Rattle.struct_cycles.proofs.PlaceLaws.{place_is, named_at}
use Rattle.member_clash.proofs.Heads.{IsClean, path_clean}
use Rattle.flagged_sites.proofs.FlagLaws.{if_told, tell_if}
use Rattle.place_order.specs.declared.stands.Stand.{Stand}
use Rattle.place_order.specs.Stands.{IsPlaceOrder}
use Rattle.place_order.proofs.EarlierLaws.{stand_of_site}
use Rattle.namespace_rules.proofs.MetLaws.{before_here, here_before}
use Rattle.id_rules.specs.Table.{first_id}
use Rattle.id_clash.specs.Items.{Meets, One, Fresh, AddsTexts, texts_at, OfSite}
use Rattle.id_clash.specs.Pass.{Passed, TakenAt}
use Rattle.id_clash.proofs.ItemLaws.{or_cases, left_or, right_or, has_text, there_text, text_there}

-- ---- texts of instances have a '<', and names have none

clean_left : (xs ys : List ℕ) → IsClean (xs ++ ys) → IsClean xs
clean_left [] ys h = tt
clean_left (x ∷ xs) ys h = (h.0, clean_left xs ys h.1)

not_clean : (xs ys : List ℕ) → IsClean (xs ++ 60 ∷ ys) → ⊥
not_clean [] ys h = true≢false h.0
not_clean (x ∷ xs) ys h = not_clean xs ys h.1

instance_not_clean : (v : UseTree) → is_instance v ≡ true → IsClean (text_of_tree v) → ⊥
instance_not_clean (plain base) i h = false≢true i
instance_not_clean (value name) i h = false≢true i
instance_not_clean (reference name) i h = false≢true i
instance_not_clean (instance name us) i h = not_clean name _ (clean_left (name ++ 60 ∷ _) (62 ∷ []) h)

both_true : (a b : Bool) → (a && b) ≡ true → (a ≡ true) × (b ≡ true)
both_true true b e = (refl, e)
both_true false b e = absurd (false≢true e)

all_of : (p : UseTree → Bool) (us : List UseTree) (v : UseTree) → list_all p us ≡ true → Contains us v → p v ≡ true
all_of p [] v a (k, l, e) = absurd (omega (arith, l))
all_of p (u ∷ us) v a (zero, l, e) = subst (λ (x : UseTree). p x ≡ true) e (both_true (p u) (list_all p us) a).0
all_of p (u ∷ us) v a (suc k, l, e) = all_of p us v (both_true (p u) (list_all p us) a).1 (k, omega (arith, l), e)

only_instances : (us : List UseTree) → list_all is_instance (filter_map (λ v. if is_instance v then Some v else None) us) ≡ true
only_instances [] = refl
only_instances (plain base ∷ us) = only_instances us
only_instances (value name ∷ us) = only_instances us
only_instances (reference name ∷ us) = only_instances us
only_instances (instance name vs ∷ us) = only_instances us

abbrev instances_by : UseTree → List UseTree
instances_by u = filter_map (λ v. if is_instance v then Some v else None) (within u)

all_instances : (us : List Used) → list_all is_instance (flat_map (λ (u : Used). instances_by u.use_) us) ≡ true
all_instances [] = refl
all_instances (u ∷ us) =
    list_all-append is_instance (instances_by u.use_) (flat_map (λ (w : Used). instances_by w.use_) us) ∙ ap (λ b. b && list_all is_instance (flat_map (λ (w : Used). instances_by w.use_) us)) (only_instances (within u.use_)) ∙ all_instances us

-- a declaration uses an instance of no clean text
used_not_clean : (sites : List Site) (k : ℕ) (text : List ℕ) → UsesText sites k text → IsClean text → ⊥
used_not_clean sites k text u c = instance_not_clean u.1 (all_of is_instance (instances_at u.0) u.1 (all_instances (uses_at u.0)) u.3) (subst IsClean (sym u.4) c)

-- ---- the texts of a declaration

mapped_there : (us : List UseTree) (text : List ℕ) → Contains (map text_of_tree us) text → (v : UseTree) × Contains us v × (text_of_tree v ≡ text)
mapped_there [] text (k, l, e) = absurd (omega (arith, l))
mapped_there (u ∷ us) text (zero, l, e) = (u, (0, omega arith, refl), e)
mapped_there (u ∷ us) text (suc k, l, e) = let r = mapped_there us text (k, omega (arith, l), e) in let c = r.1 in let m = c.1 in (r.0, (suc c.0, omega (arith, m), c.2), r.2)

there_mapped : (us : List UseTree) (v : UseTree) → Contains us v → Contains (map text_of_tree us) (text_of_tree v)
there_mapped [] v (k, l, e) = absurd (omega (arith, l))
there_mapped (u ∷ us) v (zero, l, e) = (0, omega arith, ap text_of_tree e)
there_mapped (u ∷ us) v (suc k, l, e) = let c = there_mapped us v (k, omega (arith, l), e) in let m = c.1 in (suc c.0, omega (arith, m), c.2)

module _ (sites : List Site) (k : ℕ) (s : Site) (at : slice_get sites k ≡ Some s) where
  uses_to : (text : List ℕ) → Contains (texts_at s) text → UsesText sites k text
  uses_to text c = let r = mapped_there (instances_at s) text c in (s, r.0, at, r.1, r.2)

  uses_from : (text : List ℕ) → UsesText sites k text → Contains (texts_at s) text
  uses_from text u =
      subst (λ t. Contains (texts_at s) t) u.4 (there_mapped (instances_at s) u.1 (subst (λ (x : Site). Contains (instances_at x) u.1) (same_Some u.0 s (sym u.2 ∙ at)) u.3))

-- a declaration's own name isn't the text of an instance that it uses
pub own_apart : (met : List ℕ → Bool) (ids : List ℕ → Option (Option ℕ)) (s : Site) (id : Option ℕ) → IsTrue (is_path (site_name s)) → (t : List ℕ) (i j : ℕ) → One (site_name s) id t i → Fresh met ids (texts_at s) t j → ⊥
own_apart met ids s id path t i j (e, o) (c, n) = used_not_clean (s ∷ []) 0 t (uses_to (s ∷ []) 0 s refl t c) (subst IsClean (sym e) (path_clean (site_name s) path))

-- ---- an id with its text stands at one place

decl_there : (types : List Declaration) (places : List DeclPlaces) (k : ℕ) (s : Site) → slice_get (sites_of types places) k ≡ Some s → slice_get types k ≡ Some s.decl
decl_there [] places k s e = absurd (none-some s e)
decl_there (d ∷ ds) [] k s e = absurd (none-some s e)
decl_there (d ∷ ds) (p ∷ ps) zero s e = ap (λ (x : Site). Some x.decl) (same_Some (record { decl = d; places = p }) s e)
decl_there (d ∷ ds) (p ∷ ps) (suc k) s e = decl_there ds ps k s e

module _ (types : List Declaration) (places : List DeclPlaces) (order : IsInOrder types) where
  abbrev sites : List Site
  sites = sites_of types places

  same_name : (j k : ℕ) (s t : Site) → slice_get sites j ≡ Some s → slice_get sites k ≡ Some t → site_name s ≡ site_name t → j ≡ k
  same_name j k s t a b e =
      let p = place_is types j (site_name s) order (named_at types j s.decl (decl_there types places j s a)) in
      let q = place_is types k (site_name t) order (named_at types k t.decl (decl_there types places k t b)) in
      same_Some j k (sym p ∙ ap (λ n. place_in types n) e ∙ q)

  -- its own, or the first use's
  abbrev Own : ℕ → List ℕ → ℕ → Type 0
  Own k text id = (s : Site) × (slice_get sites k ≡ Some s) × (own_id (Some (declared s.decl)) ≡ Some id) × (text ≡ site_name s)

  abbrev OfUse : ℕ → List ℕ → ℕ → Type 0
  OfUse k text id = (v : UseTree) × (first_of (instances_in sites) text ≡ Some v) × (id_of types v ≡ Some id) × FirstUses sites k text

  either_of : (k : ℕ) (text : List ℕ) (id : ℕ) → Stands types sites k text id → Own k text id ⊎ OfUse k text id
  either_of k text id (own s a b) = inl (s, a, b, refl)
  either_of k text id (first_used v f i u) = inr (v, f, i, u)

  abbrev HasPath : ℕ → Type 0
  HasPath k = (s : Site) → slice_get sites k ≡ Some s → IsTrue (is_path (site_name s))

  clean_own : (k : ℕ) (text : List ℕ) (s : Site) → HasPath k → slice_get sites k ≡ Some s → text ≡ site_name s → IsClean text
  clean_own k text s p a e = subst IsClean (sym e) (path_clean (site_name s) (p s a))

  once : (j k : ℕ) (text : List ℕ) (g h : ℕ) → HasPath j → HasPath k → StandsBefore sites j k → Stands types sites j text g → Stands types sites k text h → ⊥
  once j k text g h p q b x y = ⊎_elim
      (λ m. ⊎_elim
      (λ n. apart_before sites j k b (same_name j k m.0 n.0 m.1 n.1 (sym m.3 ∙ n.3)))
      (λ n. used_not_clean sites k text n.3.uses (clean_own j text m.0 p m.1 m.3)) (either_of k text h y))
      (λ m. ⊎_elim
      (λ n. used_not_clean sites j text m.3.uses (clean_own k text n.0 q n.1 n.3))
      (λ n. n.3.none j b m.3.uses) (either_of k text h y)) (either_of j text g x)

  -- ---- one declaration more

  module _ (stands : List Stand) (o : IsPlaceOrder sites stands) (i : ℕ) (x : Stand) (s : Site) (there : slice_get stands i ≡ Some x) (at : slice_get sites x.number ≡ Some s) (had : ℕ → Bool) (met : List ℕ → Bool) (ps : Passed types sites stands i had met)
      (ids : List ℕ → Option (Option ℕ)) (table : (t : List ℕ) → ids t ≡ first_id types (instances_in sites) t) where
    unmet : (text : List ℕ) → met text ≡ false → (j : ℕ) → StandsBefore sites j x.number → UsesText sites j text → ⊥
    unmet text m j b u =
        let r = here_before sites stands o i x s there at j u.0 u.2 b in
        true≢false (sym ((ps.texts text).1 (r.0, r.1, r.2, r.3, subst (λ (n : ℕ). UsesText sites n text) (sym r.4) u)) ∙ m)

    not_met : (text : List ℕ) → FirstUses sites x.number text → met text ≡ false
    not_met text f = ⊎_elim (λ h. (let r = (ps.texts text).0 h in let b = before_here sites stands o i x s there at r.0 r.1 r.2 r.3 in absurd (f.none r.1.number b.2 r.4))) (λ h. h) (cases_Bool (met text))

    id_there : (text : List ℕ) (id : ℕ) (w : Option UseTree) → first_of (instances_in sites) text ≡ w → option_flatten (option_map (id_of types) w) ≡ Some id → (v : UseTree) × (first_of (instances_in sites) text ≡ Some v) × (id_of types v ≡ Some id)
    id_there text id None e h = absurd (none-some id h)
    id_there text id (Some v) e h = (v, e, h)

    item_to : (text : List ℕ) (id : ℕ) → OfSite met ids s text id → Stands types sites x.number text id
    item_to text id (inl (e, h)) = subst (λ t. Stands types sites x.number t id) (sym e) (own s at h)
    item_to text id (inr (c, n)) =
        let m : met text ≡ false = ⊎_elim (λ h. absurd (none-some id (sym (ap (λ b. if b then None else option_flatten (ids text)) h) ∙ n))) (λ h. h) (cases_Bool (met text)) in
        let r = id_there text id (first_of (instances_in sites) text) refl (ap option_flatten (sym (table text)) ∙ sym (ap (λ b. if b then None else option_flatten (ids text)) m) ∙ n) in
        first_used r.0 r.1 r.2 (record { uses = uses_to sites x.number s at text c; none = unmet text m })

    item_from : (text : List ℕ) (id : ℕ) → Stands types sites x.number text id → OfSite met ids s text id
    item_from text id h = ⊎_elim
        (λ a. (let e = same_Some a.0 s (sym a.1 ∙ at) in inl (a.3 ∙ ap site_name e, subst (λ (z : Site). own_id (Some (declared z.decl)) ≡ Some id) e a.2)))
        (λ a. inr (uses_from sites x.number s at text a.3.uses, ap (λ b. if b then None else option_flatten (ids text)) (not_met text a.3) ∙ ap option_flatten (table text ∙ ap (option_map (id_of types)) a.1) ∙ a.2))
        (either_of x.number text id h)

    module _ (path : IsTrue (is_path (site_name s))) (now : ℕ → Bool) (told : Bool) (m : Meets (OfSite met ids s) had now told) where
      here_path : HasPath x.number
      here_path t a = subst (λ (z : Site). IsTrue (is_path (site_name z))) (same_Some s t (sym at ∙ a)) path

      taken_to : told ≡ true → IsTaken types sites x.number
      taken_to h =
          let r = m.tells.0 h in (
            r.0,
            r.1,
            item_to r.0 r.1 r.2,
            ⊎_elim
                (λ a. ⊎_elim
                (λ c. inl c)
                (λ b.
                let f = before_here sites stands o i x s there at b.0 b.1 b.3 b.4 in
                inr (b.1.number, b.2, inr f.2, b.5, λ e. once b.1.number x.number r.0 r.1 r.1 (λ t c. ps.paths b.0 b.1 t b.3 b.4 c) here_path f.2 (subst (λ n. Stands types sites b.1.number n r.1) e b.5) (item_to r.0 r.1 r.2)))
                ((ps.ids r.1).0 a))
                (λ w. inr (x.number, w.0, inl refl, item_to w.0 r.1 w.1, w.2)) r.3,
          )

      taken_from : IsTaken types sites x.number → told ≡ true
      taken_from t = m.tells.1 (
        t.0,
        t.1,
        item_from t.0 t.1 t.2,
        ⊎_elim
            (λ c. inl ((ps.ids t.1).1 (inl c)))
            (λ w. ⊎_elim
            (λ e. inr (w.1, item_from w.1 t.1 (subst (λ n. Stands types sites n w.1 t.1) e w.3), w.4))
            (λ b.
            let g = site_at b in
            let r = here_before sites stands o i x s there at w.0 g.0 g.1 b in
            inl ((ps.ids t.1).1 (inr (r.0, r.1, w.1, r.2, r.3, subst (λ n. Stands types sites n w.1 t.1) (sym r.4) w.3)))) w.2) t.3,
      )
        where
          site_at : {j : ℕ} → StandsBefore sites j x.number → (z : Site) × (slice_get sites j ≡ Some z)
          site_at b = (b.0, b.2)

      pub step_taken : (r : Option Entry) → IsFirst (If told DuplicateId (spot_of s)) r → IsFirst (TakenAt types sites stands i) r
      unfolding Only
      step_taken r h = same (If told DuplicateId (spot_of s)) (TakenAt types sites stands i) r to from h
        where
          to : (en : Entry) → If told DuplicateId (spot_of s) en → TakenAt types sites stands i en
          to en g = let t = if_told told DuplicateId (spot_of s) en g in (x, s, there, at, (taken_to t.0, t.1))

          from : (en : Entry) → TakenAt types sites stands i en → If told DuplicateId (spot_of s) en
          from en (y, z, there_, at_, (taken, g)) =
              let q : y ≡ x = same_Some y x (sym there_ ∙ there) in
              let w : z ≡ s = same_Some z s (sym at_ ∙ ap (λ (k : Stand). slice_get sites k.number) q ∙ at) in
              tell_if told DuplicateId (spot_of s) en (taken_from (subst (λ (k : Stand). IsTaken types sites k.number) q taken)) (g ∙ ap (λ (v : Site). broken_at DuplicateId (spot_of v)) w)

      earlier_or_here : (p : ℕ) → p < i + 1 → (p < i) ⊎ (p ≡ i)
      earlier_or_here p l = grind (arith, l)

      pub passed_more : (next : List ℕ → Bool) → AddsTexts (texts_at s) met next → Passed types sites stands (i + 1) now next
      passed_more next adds = record {
        ids = λ id. (
          λ h. ⊎_elim
              (λ a. ⊎_elim (λ c. inl c) (λ b. inr (b.0, b.1, b.2, (let l = b.3 in omega (arith, l)), b.4, b.5)) ((ps.ids id).0 a))
              (λ w. inr (i, x, w.0, omega arith, there, item_to w.0 id w.1)) ((m.grown id).0 h),
          λ h. (m.grown id).1 (⊎_elim
              (λ c. inl ((ps.ids id).1 (inl c)))
              (λ b. ⊎_elim
              (λ l. inl ((ps.ids id).1 (inr (b.0, b.1, b.2, l, b.4, b.5))))
              (λ e. inr (b.2, item_from b.2 id (subst (λ (y : Stand). Stands types sites y.number b.2 id) (same_there b.0 b.1 e b.4) b.5)))
              (earlier_or_here b.0 b.3)) h),
        );
        texts = λ text. (
          λ h. ⊎_elim
              (λ a. (let b = (ps.texts text).0 a in (b.0, b.1, (let l = b.2 in omega (arith, l)), b.3, b.4)))
              (λ a. (i, x, omega arith, there, uses_to sites x.number s at text (there_text (texts_at s) text a)))
              (or_cases (met text) (has_text (texts_at s) text) (sym (adds text) ∙ h)),
          λ b. adds text ∙ ⊎_elim
              (λ l. left_or (met text) (has_text (texts_at s) text) ((ps.texts text).1 (b.0, b.1, l, b.3, b.4)))
              (λ e. right_or (met text) (has_text (texts_at s) text) (text_there (texts_at s) text (uses_from sites x.number s at text (subst (λ (y : Stand). UsesText sites y.number text) (same_there b.0 b.1 e b.3) b.4))))
              (earlier_or_here b.0 b.2),
        );
        paths = λ p y t l g a. ⊎_elim
            (λ k. ps.paths p y t k g a)
            (λ e. here_path t (subst (λ (z : Stand). slice_get sites z.number ≡ Some t) (same_there p y e g) a))
            (earlier_or_here p l);
      }
        where
          same_there : (p : ℕ) (y : Stand) → p ≡ i → slice_get stands p ≡ Some y → y ≡ x
          same_there p y e g = same_Some y x (sym (subst (λ n. slice_get stands n ≡ Some y) e g) ∙ there)

  -- all in order are all
  pub all_taken : (stands : List Stand) → IsPlaceOrder sites stands → (r : Option Entry) → IsFirst (Below (length stands) (TakenAt types sites stands)) r → IsFirst (IsDuplicateId types sites) r
  unfolding Below At Only
  all_taken stands o r h = same (Below (length stands) (TakenAt types sites stands)) (IsDuplicateId types sites) r to from h
    where
      to : (e : Entry) → Below (length stands) (TakenAt types sites stands) e → IsDuplicateId types sites e
      to e (p, l, (x, s, there, at, g)) = (x.number, slice_get_within sites x.number s at, (s, at, g))

      from : (e : Entry) → IsDuplicateId types sites e → Below (length stands) (TakenAt types sites stands) e
      from e (k, l, (s, at, g)) =
          let f = stand_of_site sites stands o k s at in
          (f.0, slice_get_within stands f.0 f.1 f.2, (f.1, s, f.2, subst (λ (n : ℕ). slice_get sites n ≡ Some s) (sym f.3) at, (subst (λ (n : ℕ). IsTaken types sites n) (sym f.3) g.0, g.1)))

-- before the first
pub nothing_passed : (types : List Declaration) (sites : List Site) (stands : List Stand) (had : ℕ → Bool) (met : List ℕ → Bool) → ((id : ℕ) → IsTrue (had id) ↔ Contains reserved_ids id) → ((text : List ℕ) → met text ≡ false) → Passed types sites stands 0 had met
nothing_passed types sites stands had met h n = record {
  ids = λ id. (λ a. inl ((h id).0 a), λ a. ⊎_elim (λ c. (h id).1 c) (λ b. (let l = b.3 in absurd (omega (arith, l)))) a);
  texts = λ text. (λ a. absurd (true≢false (sym a ∙ n text)), λ b. (let l = b.2 in absurd (omega (arith, l))));
  paths = λ p x s l g a. absurd (omega (arith, l));
}

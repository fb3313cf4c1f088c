-- The rule on ids, wherever declarations stand.
use Rattle.std.proofs.Common.{◌≡◌, ◌≢◌, ◌<◌, ℕ, zero, suc, false, List, [], ◌∷◌, ◌++◌, map, length, ◌≤◌, slice_get, slice_index_or, Some, None, Contains, if◌then◌else◌, ◌⊎◌, inl, inr, ⊎_elim, refl, sym, ap, subst, ◌∙◌, arith, true≢false}
use Rattle.std.specs.List.{flat_map, filter_map}
use Rattle.std.specs.Str.{bytes_eq}
use Rattle.std.specs.Cmp.Lexicographic.{bytes_decides}
use Rattle.std.proofs.lemmas.Bool.{cases_order, cases_Bool}
use Rattle.std.proofs.lemmas.Option.{same_Some, slice_get_within}
use Rattle.ranked.specs.Entries.{Entry}
use Rattle.ranked.specs.First.{Below, At, Only}
use Rattle.wr_base.specs.declared.code.Code.TheVariants.{DuplicateId}
use Rattle.wr_base.specs.declared.declaration.Declaration.{Declaration}
use Rattle.wr_base.specs.Trees.{UseTree, text_of_tree, within}
use Rattle.wr_rules.specs.Kinds.{declared}
use Rattle.wr_rules.specs.Sites.{Site, spot_of, broken_at, StandsBefore}
use Rattle.wr_rules.specs.Signatures.{own_id}
use Rattle.wr_rules.specs.Uses.{Used, uses_at}
use Rattle.wr_rules.specs.NameRules.{is_instance, instances_at, instances_in, UsesText, first_of, FirstUses, Stands, own, first_used, IsTaken, IsDuplicateId}
use Rattle.place_laws.specs.Moves.{Moves}
use Rattle.place_laws.specs.Shapes.{Shape, shape, Bare, bare}
use Rattle.place_laws.proofs.MoveLaws.{other_at, first_same}
use Rattle.place_laws.proofs.ShapeLaws.{at_places, uses_alike}
use Rattle.place_laws.proofs.FactoryMoves.{shape_name}
use Rattle.place_laws.proofs.OrderLaws.{apart_before, either_before, before_follows}

-- ---- the instances of two sites of one shape

abbrev instances_by : UseTree → List UseTree
instances_by u = filter_map (λ v. if is_instance v then Some v else None) (within u)

through_bare : (us : List Used) → flat_map (λ (u : Used). instances_by u.use_) us ≡ flat_map (λ (b : Bare). instances_by b.use_) (map bare us)
through_bare [] = refl
through_bare (u ∷ us) = ap (λ vs. instances_by u.use_ ++ vs) (through_bare us)

same_instances : (x y : Site) → shape x ≡ shape y → instances_at x ≡ instances_at y
same_instances x y e = subst (λ d. instances_at x ≡ instances_at (at_places d y.places)) (ap (λ (s : Shape). s.decl) e)
    (through_bare (uses_at x) ∙ ap (flat_map (λ (b : Bare). instances_by b.use_)) (uses_alike x.decl x.places y.places (ap (λ (s : Shape). s.parts) e)) ∙ sym (through_bare (uses_at (at_places x.decl y.places))))

all_instances : (xs ys : List Site) → map shape xs ≡ map shape ys → instances_in xs ≡ instances_in ys
all_instances [] [] e = refl
all_instances [] (y ∷ ys) e = cc
all_instances (x ∷ xs) [] e = cc
all_instances (x ∷ xs) (y ∷ ys) e =
    let f = first_same shape shape x y xs ys e in ap (λ vs. vs ++ instances_in xs) (same_instances x y f.0) ∙ ap (λ vs. instances_at y ++ vs) (all_instances xs ys f.1)

same_or_apart : (a b : ℕ) → (a ≡ b) ⊎ (a ≢ b)
same_or_apart a b = ⊎_elim (λ e. inl e) (λ o. ⊎_elim (λ l. inr (λ e. omega (arith, e, l))) (λ l. inr (λ e. omega (arith, e, l))) o) (cases_order a b)

slice_get_some : {X : Type 0} (xs : List X) (k : ℕ) → k < length xs → (x : X) × (slice_get xs k ≡ Some x)
slice_get_some [] k l = absurd (omega (arith, l))
slice_get_some (x ∷ xs) zero l = (x, refl)
slice_get_some (x ∷ xs) (suc k) l = slice_get_some xs k (omega (arith, l))

-- ---- whether a text is among uses

abbrev Has : List UseTree → List ℕ → Type 0
Has us text = (v : UseTree) × Contains us v × (text_of_tree v ≡ text)

has_more : (u : UseTree) (us : List UseTree) (text : List ℕ) → Has us text → Has (u ∷ us) text
has_more u us text h = let k = h.1 in let l = k.1 in (h.0, (suc k.0, omega (arith, l), k.2), h.2)

has_less : (u : UseTree) (us : List UseTree) (text : List ℕ) → bytes_eq (text_of_tree u) text ≡ false → Has (u ∷ us) text → Has us text
has_less u us text n h = by_place h.1.0 h.0 h.1.1 h.1.2 h.2
  where
    by_place : (k : ℕ) (v : UseTree) → k < length (u ∷ us) → slice_index_or (u ∷ us) k v ≡ v → text_of_tree v ≡ text → Has us text
    by_place zero v l e t = absurd (true≢false (sym ((bytes_decides (text_of_tree u) text).1 (ap text_of_tree e ∙ t)) ∙ n))
    by_place (suc k) v l e t = (v, (k, omega (arith, l), e), t)

has_or_not : (us : List UseTree) (text : List ℕ) → Has us text ⊎ ¬ (Has us text)
has_or_not [] text = inr (λ h. (let l = h.1.1 in omega (arith, l)))
has_or_not (u ∷ us) text = ⊎_elim
    (λ y. inl (u, (0, omega arith, refl), (bytes_decides (text_of_tree u) text).0 y))
    (λ n. ⊎_elim (λ h. inl (has_more u us text h)) (λ m. inr (λ h. m (has_less u us text n h))) (has_or_not us text))
    (cases_Bool (bytes_eq (text_of_tree u) text))

module _ (sites : List Site) (text : List ℕ) where
  uses_or_not : (k : ℕ) (s : Site) → slice_get sites k ≡ Some s → UsesText sites k text ⊎ ¬ (UsesText sites k text)
  uses_or_not k s a = ⊎_elim
      (λ h. inl (s, h.0, a, h.1, h.2))
      (λ m. inr (λ h. m (h.1, subst (λ (x : Site). Contains (instances_at x) h.1) (same_Some h.0 s (sym h.2 ∙ a)) h.3, h.4)))
      (has_or_not (instances_at s) text)

  -- of the first n none uses the text, or one before which none does
  abbrev Least : ℕ → Type 0
  Least n = ((j : ℕ) → j < n → ¬ (UsesText sites j text)) ⊎ ((k : ℕ) × (k < n) × UsesText sites k text × ((j : ℕ) → j < n → StandsBefore sites j k → ¬ (UsesText sites j text)))

  at_last : (P : ℕ → Type 0) (n : ℕ) → ((j : ℕ) → j < n → P j) → P n → (j : ℕ) → j < suc n → P j
  at_last P n each last j l = ⊎_elim (λ e. subst P (sym e) last) (λ o. ⊎_elim (λ b. each j b) (λ b. absurd (omega (arith, l, b))) o) (cases_order j n)

  one_more : (n : ℕ) (s : Site) → slice_get sites n ≡ Some s → Least n → Least (suc n)
  one_more n s a least = ⊎_elim
      (λ u. ⊎_elim
      (λ none. inr (n, omega arith, u, at_last (λ j. StandsBefore sites j n → ¬ (UsesText sites j text)) n (λ j l b. none j l) (λ b. absurd (apart_before sites n n b refl))))
      (λ r. (let w = r.1 in let t = r.2.2 in ⊎_elim
      (λ b. inr (n, omega arith, u, at_last (λ j. StandsBefore sites j n → ¬ (UsesText sites j text)) n (λ j l c. r.3 j l (before_follows sites j n r.0 c b)) (λ c. absurd (apart_before sites n n c refl))))
      (λ b. inr (r.0, omega (arith, w), r.2, at_last (λ j. StandsBefore sites j r.0 → ¬ (UsesText sites j text)) n r.3 (λ c. absurd (apart_before sites n n (before_follows sites n r.0 n c b) refl))))
      (either_before sites n r.0 s r.2.0 a t (λ q. omega (arith, q, w))))) least)
      (λ m. ⊎_elim
      (λ none. inl (at_last (λ j. ¬ (UsesText sites j text)) n none m))
      (λ r. (let w = r.1 in inr (r.0, omega (arith, w), r.2, at_last (λ j. StandsBefore sites j r.0 → ¬ (UsesText sites j text)) n r.3 (λ c. m)))) least)
      (uses_or_not n s a)

  least_of : (n : ℕ) → n ≤ length sites → Least n
  least_of zero l = inl (λ j b. absurd (omega (arith, b)))
  least_of (suc n) l =
      let a = slice_get_some sites n (omega (arith, l)) in
      one_more n a.0 a.1 (least_of n (omega (arith, l)))

  first_user : (k : ℕ) → UsesText sites k text → (j : ℕ) × FirstUses sites j text
  first_user k u = ⊎_elim
      (λ none. absurd (none k (slice_get_within sites k u.0 u.2) u))
      (λ r. (r.0, record { uses = r.2; none = λ j b. r.3 j (slice_get_within sites j b.0 b.2) b }))
      (least_of (length sites) (omega arith))

module _ (types : List Declaration) (ss ts : List Site) (e : map shape ss ≡ map shape ts) where
  uses_moved : (k : ℕ) (text : List ℕ) → UsesText ss k text → UsesText ts k text
  uses_moved k text h = let r = other_at shape shape ss ts e k h.0 h.2 in (r.0, h.1, r.1, subst (λ us. Contains us h.1) (same_instances h.0 r.0 r.2) h.3, h.4)

  stands_moved : (k : ℕ) (text : List ℕ) (id : ℕ) → Stands types ss k text id → (j : ℕ) × Stands types ts j text id
  stands_moved k text id (own s a b) =
      let r = other_at shape shape ss ts e k s a in
      (k, subst (λ n. Stands types ts k n id) (sym (shape_name s r.0 r.2)) (own r.0 r.1 (subst (λ d. own_id (Some (declared d)) ≡ Some id) (ap (λ (x : Shape). x.decl) r.2) b)))
  stands_moved k text id (first_used v f i u) =
      let r = first_user ts text k (uses_moved k text u.uses) in
      (r.0, first_used v (subst (λ us. first_of us text ≡ Some v) (all_instances ss ts e) f) i r.1)

  stands_at : (k : ℕ) (text : List ℕ) (id : ℕ) → Stands types ts k text id → (t : Site) × (slice_get ts k ≡ Some t)
  stands_at k text id (own s a b) = (s, a)
  stands_at k text id (first_used v f i u) = (u.uses.0, u.uses.2)

  id_at : (k : ℕ) (t : Site) → slice_get ts k ≡ Some t → IsTaken types ts k → (o : Entry) × IsDuplicateId types ts o
  unfolding Below At Only
  id_at k t a c = (broken_at DuplicateId (spot_of t), (k, slice_get_within ts k t a, (t, a, (c, refl))))

  pub id_moved : Moves (IsDuplicateId types ss) (IsDuplicateId types ts)
  unfolding Below At Only
  id_moved o h =
      let f = h.2.2.0 in
      let text = f.0 in
      let id = f.1 in
      let m = stands_moved h.0 text id f.2 in
      let t = stands_at m.0 text id m.1 in
      ⊎_elim
      (λ reserved. id_at m.0 t.0 t.1 (text, id, m.1, inl reserved))
      (λ w.
      let n = stands_moved w.0 w.1 id w.3 in
      let u = stands_at n.0 w.1 id n.1 in
      ⊎_elim
      (λ same. id_at m.0 t.0 t.1 (text, id, m.1, inr (n.0, w.1, inl same, n.1, w.4)))
      (λ apart. ⊎_elim
      (λ b. id_at m.0 t.0 t.1 (text, id, m.1, inr (n.0, w.1, inr b, n.1, w.4)))
      (λ b. (let ne = w.4 in id_at n.0 u.0 u.1 (w.1, id, n.1, inr (m.0, text, inr b, m.1, λ q. ne (sym q)))))
      (either_before ts n.0 m.0 u.0 t.0 u.1 t.1 apart))
      (same_or_apart n.0 m.0))
      f.3

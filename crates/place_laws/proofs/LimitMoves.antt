-- The limits, wherever declarations stand.
use Rattle.std.proofs.Common.{◌≡◌, ◌+◌, ◌==◌, ℕ, Bool, true, false, ◌&&◌, ◌||◌, nat_lt, nat_le, List, [], ◌∷◌, map, length, sum, slice_get, Some, inl, inr, ⊎_elim, refl, ap, subst, ◌∙◌, arith}
use Rattle.std.proofs.lemmas.Bool.{ltb-true, lt-ltb, leb-true, le-leb, eqb-true, eq-eqb}
use Rattle.std.proofs.lemmas.Option.{none-some, slice_get_within}
use Rattle.ranked.specs.Entries.{Entry}
use Rattle.ranked.specs.First.{Or, Below, At}
use Rattle.wr_base.specs.Places.{part_count}
use Rattle.wr_base.specs.declared.code.Code.{Code}
use Rattle.wr_base.specs.declared.code.Code.TheVariants.{ManyTypes, ManyMembers, ManyParams, LongFullName, ManyNames, ManyUses}
use Rattle.wr_base.specs.declared.declaration.Declaration.{Declaration}
use Rattle.wr_base.specs.declared.declaration.Signature.{Signature}
use Rattle.wr_base.specs.declared.places.DeclPlaces.{DeclPlaces}
use Rattle.wr_base.specs.Trees.{within}
use Rattle.wr_rules.specs.Kinds.{use_name}
use Rattle.wr_rules.specs.Sites.{Site, Spot, If, broken_at, spot_of, site_name}
use Rattle.wr_rules.specs.MemberRules.{signatures_at}
use Rattle.wr_rules.specs.Members.{Standing}
use Rattle.wr_rules.specs.Uses.{Used, uses_at}
use Rattle.wr_rules.specs.Limits.{before, sum_by, passes, names_in, words_in, bytes_by, bytes_in, passes_uses, is_long_name, IsManyTypes, IsManyMembers, IsManyParams, IsLongFullName, IsManyNames, IsManyUses, LimitAt, Limits}
use Rattle.place_laws.specs.Moves.{Moves}
use Rattle.place_laws.specs.Shapes.{Shape, shape, Bare, bare}
use Rattle.place_laws.proofs.MoveLaws.{other_at, among_moved, if_moved}
use Rattle.place_laws.proofs.ShapeLaws.{at_places, signature_part, signatures_alike, uses_alike, images_alike, site_moved}
use Rattle.place_laws.proofs.Crossing.{either_true, or_left, or_right, both_true, and_true, Within, Beyond}
use Rattle.place_laws.proofs.Weights.{Passes, passes_moved, sum_more}

-- ---- what is counted goes by shapes

by_decl : (h : Site → ℕ) → ((d : Declaration) (p q : DeclPlaces) → length p.parts ≡ length q.parts → h (at_places d p) ≡ h (at_places d q)) → (x y : Site) → shape x ≡ shape y → h x ≡ h y
by_decl h each x y e = subst (λ d. h x ≡ h (at_places d y.places)) (ap (λ (s : Shape). s.decl) e) (each x.decl x.places y.places (ap (λ (s : Shape). s.parts) e))

names_alike : (x y : Site) → shape x ≡ shape y → names_in x ≡ names_in y
names_alike = by_decl names_in (λ d p q e. ap (λ ns. part_count d + sum ns)
    (images_alike signature_part (λ (g : Standing Signature). length g.part.params) (λ (s : Signature). length s.params) (λ x. refl) (signatures_at (at_places d p)) (signatures_at (at_places d q)) (signatures_alike d p q e)))

words_alike : (x y : Site) → shape x ≡ shape y → words_in x ≡ words_in y
words_alike = by_decl words_in (λ d p q e. ap sum
    (images_alike bare (λ (u : Used). length (within u.use_)) (λ (b : Bare). length (within b.use_)) (λ x. refl) (uses_at (at_places d p)) (uses_at (at_places d q)) (uses_alike d p q e)))

bytes_alike : (x y : Site) → shape x ≡ shape y → bytes_in x ≡ bytes_in y
bytes_alike = by_decl bytes_in (λ d p q e. ap sum
    (images_alike bare (λ (u : Used). sum (map (λ v. bytes_by (use_name v)) (within u.use_))) (λ (b : Bare). sum (map (λ v. bytes_by (use_name v)) (within b.use_))) (λ x. refl) (uses_at (at_places d p)) (uses_at (at_places d q)) (uses_alike d p q e)))

abbrev one : Site → ℕ
one s = 1

abbrev none : Site → ℕ
none s = 0

ones : (ss : List Site) → sum_by one ss ≡ length ss
ones [] = refl
ones (s ∷ ss) = let r = ones ss in sum_more one s ss ∙ omega (arith, r)

nones : (ss : List Site) → sum_by none ss ≡ 0
nones [] = refl
nones (s ∷ ss) = let r = nones ss in sum_more none s ss ∙ omega (arith, r)

-- ---- tests and counts

test_of : (test : Bool) (code : Code) (spot : Spot) (e : Entry) → If test code spot e → test ≡ true
unfolding If
test_of true code spot e h = refl
test_of false code spot e h = absurd (none-some e h)

if_so : (test : Bool) (code : Code) (spot : Spot) → test ≡ true → If test code spot (broken_at code spot)
unfolding If
if_so true code spot t = refl
if_so false code spot t = cc

module _ (la lb : ℕ) (x y a b : ℕ) where
  abbrev two_pass : Bool
  two_pass = nat_le x la && nat_le y lb && (nat_lt la (x + a) || nat_lt lb (y + b))

  two_so : two_pass ≡ true → Within la lb x y × Beyond la lb (x + a) (y + b)
  two_so e =
      let t = both_true (nat_le x la && nat_le y lb) (nat_lt la (x + a) || nat_lt lb (y + b)) e in
      let w = both_true (nat_le x la) (nat_le y lb) t.0 in
      ((leb-true x la w.0, leb-true y lb w.1), ⊎_elim (λ h. inl (ltb-true la (x + a) h)) (λ h. inr (ltb-true lb (y + b) h)) (either_true (nat_lt la (x + a)) (nat_lt lb (y + b)) t.1))

  so_two : Within la lb x y → Beyond la lb (x + a) (y + b) → two_pass ≡ true
  so_two w h = and_true (nat_le x la && nat_le y lb) (nat_lt la (x + a) || nat_lt lb (y + b)) (and_true (nat_le x la) (nat_le y lb) (le-leb x la w.0) (le-leb y lb w.1))
      (⊎_elim (λ l. or_left (nat_lt la (x + a)) (nat_lt lb (y + b)) (lt-ltb la (x + a) l)) (λ l. or_right (nat_lt la (x + a)) (nat_lt lb (y + b)) (lt-ltb lb (y + b) l)) h)

-- ---- one count alone

module _ (count : Site → ℕ) (limit : ℕ) (sites : List Site) where
  passes_one : (k : ℕ) (s : Site) → slice_get sites k ≡ Some s → passes count limit (before k s.places.at sites) s ≡ true → Passes count none limit 0 sites
  passes_one k s a e =
      let earlier = before k s.places.at sites in
      let t = both_true (nat_le (sum_by count earlier) limit) (nat_lt limit (sum_by count earlier + count s)) e in
      record { k = k; s = s; at = a; held = (leb-true (sum_by count earlier) limit t.0, (let n = nones earlier in omega (arith, n))); beyond = inl (ltb-true limit (sum_by count earlier + count s) t.1) }

  one_passes : (p : Passes count none limit 0 sites) → passes count limit (before p.k p.s.places.at sites) p.s ≡ true
  one_passes p =
      let earlier = before p.k p.s.places.at sites in
      let n = nones earlier in
      and_true (nat_le (sum_by count earlier) limit) (nat_lt limit (sum_by count earlier + count p.s)) (le-leb (sum_by count earlier) limit p.held.0)
      (lt-ltb limit (sum_by count earlier + count p.s) (⊎_elim (λ l. l) (λ l. absurd (omega (arith, l, n))) p.beyond))

  passes_types : (k : ℕ) (s : Site) → slice_get sites k ≡ Some s → (length (before k s.places.at sites) == limit) ≡ true → Passes one none limit 0 sites
  passes_types k s a e =
      let earlier = before k s.places.at sites in
      let n = nones earlier in
      let o = ones earlier in
      let l = eqb-true (length earlier) limit e in
      record { k = k; s = s; at = a; held = (omega (arith, o, l), omega (arith, n)); beyond = inl (omega (arith, o, l)) }

  types_pass : (p : Passes one none limit 0 sites) → (length (before p.k p.s.places.at sites) == limit) ≡ true
  types_pass p =
      let earlier = before p.k p.s.places.at sites in
      let n = nones earlier in
      let o = ones earlier in
      let w = p.held.0 in
      eq-eqb (length earlier) limit (⊎_elim (λ l. omega (arith, l, w, o)) (λ l. absurd (omega (arith, l, n))) p.beyond)

-- ---- the six limits

module _ (ss ts : List Site) (e : map shape ss ≡ map shape ts) where
  limit_at : (k : ℕ) (t : Site) (o : Entry) → slice_get ts k ≡ Some t → LimitAt ts k t o → (r : Entry) × Limits ts r
  unfolding Below At
  limit_at k t o a l = (o, (k, slice_get_within ts k t a, (t, a, l)))

  types_moved : (k : ℕ) (s : Site) (o : Entry) → slice_get ss k ≡ Some s → IsManyTypes (before k s.places.at ss) s o → (r : Entry) × Limits ts r
  unfolding Or
  types_moved k s o a h =
      let p = passes_moved one none 20000 0 (λ x y d. refl) (λ x y d. refl) ss ts e (passes_types names_in 20000 ss k s a (test_of (length (before k s.places.at ss) == 20000) ManyTypes (spot_of s) o h)) in
      limit_at p.k p.s (broken_at ManyTypes (spot_of p.s)) p.at (inl (if_so (length (before p.k p.s.places.at ts) == 20000) ManyTypes (spot_of p.s) (types_pass names_in 20000 ts p)))

  names_moved : (k : ℕ) (s : Site) (o : Entry) → slice_get ss k ≡ Some s → IsManyNames (before k s.places.at ss) s o → (r : Entry) × Limits ts r
  unfolding Or
  names_moved k s o a h =
      let p = passes_moved names_in none 500000 0 names_alike (λ x y d. refl) ss ts e (passes_one names_in 500000 ss k s a (test_of (passes names_in 500000 (before k s.places.at ss) s) ManyNames (spot_of s) o h)) in
      limit_at p.k p.s (broken_at ManyNames (spot_of p.s)) p.at (inr (inr (inr (inr (inl (if_so (passes names_in 500000 (before p.k p.s.places.at ts) p.s) ManyNames (spot_of p.s) (one_passes names_in 500000 ts p)))))))

  uses_moved : (k : ℕ) (s : Site) (o : Entry) → slice_get ss k ≡ Some s → IsManyUses (before k s.places.at ss) s o → (r : Entry) × Limits ts r
  unfolding Or
  uses_moved k s o a h =
      let earlier = before k s.places.at ss in
      let t = two_so 4000000 67108864 (sum_by words_in earlier) (sum_by bytes_in earlier) (words_in s) (bytes_in s) (test_of (passes_uses earlier s) ManyUses (spot_of s) o h) in
      let p = passes_moved words_in bytes_in 4000000 67108864 words_alike bytes_alike ss ts e (record { k = k; s = s; at = a; held = t.0; beyond = t.1 }) in
      let then = before p.k p.s.places.at ts in
      limit_at p.k p.s (broken_at ManyUses (spot_of p.s)) p.at (inr (inr (inr (inr (inr (if_so (passes_uses then p.s) ManyUses (spot_of p.s)
      (so_two 4000000 67108864 (sum_by words_in then) (sum_by bytes_in then) (words_in p.s) (bytes_in p.s) p.held p.beyond)))))))

  -- a limit of one declaration is passed by the same one
  own_moved : (A : Site → Entry → Type 0) → ((s t : Site) → shape s ≡ shape t → Moves (A s) (A t)) → ((k : ℕ) (t : Site) (o : Entry) → A t o → LimitAt ts k t o) → (k : ℕ) (s : Site) (o : Entry) → slice_get ss k ≡ Some s → A s o → (r : Entry) × Limits ts r
  own_moved A each put k s o a h =
      let t = other_at shape shape ss ts e k s a in
      let m = each s t.0 t.2 o h in
      limit_at k t.0 m.0 t.1 (put k t.0 m.0 m.1)

  many_members : (s t : Site) → shape s ≡ shape t → Moves (IsManyMembers s) (IsManyMembers t)
  many_members = site_moved IsManyMembers IsManyMembers (λ d p q l. if_moved (nat_lt 4000 (part_count d)) (nat_lt 4000 (part_count d)) ManyMembers (spot_of (at_places d p)) (spot_of (at_places d q)) refl)

  many_params : (s t : Site) → shape s ≡ shape t → Moves (IsManyParams s) (IsManyParams t)
  many_params = site_moved IsManyParams IsManyParams (λ d p q l.
      among_moved signature_part signature_part (signatures_at (at_places d p)) (signatures_at (at_places d q)) (λ g. If (nat_lt 64 (length g.part.params)) ManyParams g.spot) (λ g. If (nat_lt 64 (length g.part.params)) ManyParams g.spot) (signatures_alike d p q l)
      (λ x y i. if_moved (nat_lt 64 (length x.part.params)) (nat_lt 64 (length y.part.params)) ManyParams x.spot y.spot (ap (λ (s : Signature). nat_lt 64 (length s.params)) i)))

  long_names : (s t : Site) → shape s ≡ shape t → Moves (IsLongFullName s) (IsLongFullName t)
  long_names = site_moved IsLongFullName IsLongFullName (λ d p q l. if_moved (is_long_name (site_name (at_places d p))) (is_long_name (site_name (at_places d q))) LongFullName (spot_of (at_places d p)) (spot_of (at_places d q)) refl)

  put_members : (k : ℕ) (t : Site) (o : Entry) → IsManyMembers t o → LimitAt ts k t o
  unfolding Or
  put_members k t o h = inr (inl h)

  put_params : (k : ℕ) (t : Site) (o : Entry) → IsManyParams t o → LimitAt ts k t o
  unfolding Or
  put_params k t o h = inr (inr (inl h))

  put_long : (k : ℕ) (t : Site) (o : Entry) → IsLongFullName t o → LimitAt ts k t o
  unfolding Or
  put_long k t o h = inr (inr (inr (inl h)))

  limit_moved : (k : ℕ) (s : Site) (o : Entry) → slice_get ss k ≡ Some s → LimitAt ss k s o → (r : Entry) × Limits ts r
  unfolding Or
  limit_moved k s o a h = ⊎_elim (λ l. types_moved k s o a l)
      (λ h2. ⊎_elim (λ l. own_moved IsManyMembers many_members put_members k s o a l)
      (λ h3. ⊎_elim (λ l. own_moved IsManyParams many_params put_params k s o a l)
      (λ h4. ⊎_elim (λ l. own_moved IsLongFullName long_names put_long k s o a l)
      (λ h5. ⊎_elim (λ l. names_moved k s o a l) (λ l. uses_moved k s o a l) h5) h4) h3) h2) h

  pub limits_moved : Moves (Limits ss) (Limits ts)
  unfolding Below At
  limits_moved o h = limit_moved h.0 h.2.0 o h.2.1 h.2.2

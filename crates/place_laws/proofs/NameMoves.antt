-- The rules on names of namespaces and on ids, wherever declarations stand.
use Rattle.std.proofs.Common.{◌≡◌, ◌<◌, ℕ, List, [], ◌∷◌, ◌++◌, map, length, slice_get, Some, IsTrue, inl, inr, ⊎_elim, refl, sym, ap, subst, ◌∙◌}
use Rattle.std.specs.List.{list_any}
use Rattle.std.specs.Cmp.Lexicographic.{bytes_decides}
use Rattle.std.proofs.lemmas.Option.{slice_get_within}
use Rattle.ranked.specs.Entries.{Entry}
use Rattle.ranked.specs.First.{Below, At, Only}
use Rattle.wr_base.specs.declared.code.Code.TheVariants.{NamespaceClash}
use Rattle.found_table.specs.Table.{table, name_of as found_name}
use Rattle.wr_rules.specs.Sites.{Site, site_name, spot_of, broken_at}
use Rattle.wr_base.specs.Lower.{lower}
use Rattle.wr_rules.specs.NameRules.{holds, same_lower, all_names, TakenBefore, NamesClash, IsNamespaceClash}
use Rattle.place_laws.specs.Moves.{Moves}
use Rattle.place_laws.specs.Shapes.{shape}
use Rattle.place_laws.proofs.MoveLaws.{other_at, as_long, first_same}
use Rattle.place_laws.proofs.FactoryMoves.{shape_name}
use Rattle.place_laws.proofs.OrderLaws.{apart_before, either_before}

names_alike : (xs ys : List Site) → map shape xs ≡ map shape ys → map site_name xs ≡ map site_name ys
names_alike [] [] e = refl
names_alike [] (y ∷ ys) e = cc
names_alike (x ∷ xs) [] e = cc
names_alike (x ∷ xs) (y ∷ ys) e =
    let f = first_same shape shape x y xs ys e in ap (λ n. n ∷ map site_name xs) (shape_name x y f.0) ∙ ap (λ ns. site_name y ∷ ns) (names_alike xs ys f.1)

lower_turned : (a b : List ℕ) → IsTrue (same_lower a b) → IsTrue (same_lower b a)
lower_turned a b h = (bytes_decides (lower b) (lower a)).1 (sym ((bytes_decides (lower a) (lower b)).0 h))

module _ (ss ts : List Site) (e : map shape ss ≡ map shape ts) where
  -- the site that has the same number
  there : (k : ℕ) (s : Site) → slice_get ss k ≡ Some s → (t : Site) × (slice_get ts k ≡ Some t) × (site_name s ≡ site_name t)
  there k s a = let r = other_at shape shape ss ts e k s a in (r.0, r.1, shape_name s r.0 r.2)

  below : (k : ℕ) → k < length ss → k < length ts
  below k l = subst (λ n. k < n) (as_long shape shape ss ts e) l

  clash_at : (k : ℕ) (t : Site) → slice_get ts k ≡ Some t → k < length ts → NamesClash ts k (site_name t) → (o : Entry) × IsNamespaceClash ts o
  unfolding Below At Only
  clash_at k t a l c = (broken_at NamespaceClash (spot_of t), (k, l, (t, a, (c, refl))))

  taken : (k : ℕ) (s t : Site) → k < length ss → slice_get ss k ≡ Some s → slice_get ts k ≡ Some t → site_name s ≡ site_name t → (b : TakenBefore ss k (site_name s)) → b.j < length ss → (o : Entry) × IsNamespaceClash ts o
  taken k s t l a c n b inside =
      let r = there b.j b.other b.at in
      let same : IsTrue (same_lower (site_name r.0) (site_name t)) = subst (λ x. IsTrue (same_lower x (site_name t))) r.2 (subst (λ x. IsTrue (same_lower (site_name b.other) x)) n b.same) in
      ⊎_elim
      (λ before. clash_at k t c (below k l) (inr (inr (record { j = b.j; other = r.0; at = r.1; before = before; same = same }))))
      (λ after. clash_at b.j r.0 r.1 (below b.j inside) (inr (inr (record { j = k; other = t; at = c; before = after; same = lower_turned (site_name r.0) (site_name t) same }))))
      (either_before ts b.j k r.0 t r.1 c (apart_before ss b.j k b.before))

  pub namespace_moved : Moves (IsNamespaceClash ss) (IsNamespaceClash ts)
  unfolding Below At Only
  namespace_moved o h =
      let k = h.0 in
      let s = h.2.0 in
      let r = there k s h.2.1 in
      let l = below k h.1 in
      ⊎_elim
      (λ held. clash_at k r.0 r.1 l (inl (subst (λ n. IsTrue (list_any (holds n) (all_names ts))) r.2 (subst (λ ns. IsTrue (list_any (holds (site_name s)) (ns ++ map found_name table))) (names_alike ss ts e) held))))
      (λ others. ⊎_elim
      (λ found. clash_at k r.0 r.1 l (inr (inl (subst (λ n. IsTrue (list_any (λ row. same_lower (found_name row) n) table)) r.2 found))))
      (λ b. taken k s r.0 h.1 h.2.1 r.1 r.2 b (slice_get_within ss b.j b.other b.at)) others) h.2.2.0

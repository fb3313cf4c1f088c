-- The default of a class stands in its list once.
use Rattle.std.proofs.Common.{◌≡◌, ℕ, true, false, not, ◌&&◌, ◌||◌, cond, List, [], ◌∷◌, ◌++◌, Some, None, map, get_or, refl, sym, ap, subst, ◌∙◌, true≢false, inl, inr}
use Rattle.std.specs.List.{All, AllByRecursion, filter, list_any}
use Rattle.std.specs.Ordering.{nat_cmp, ordering_reverse}
use Rattle.std.specs.Str.{bytes_eq}
use Rattle.std.specs.Cmp.Lexicographic.{slice_cmp, bytes_decides}
use Rattle.std.specs.declared.cmp.Ordering.TheVariants.{Less, Greater}
use Rattle.std.proofs.lemmas.Cmp.{nat_list_cmp_total}
use Rattle.std.proofs.lemmas.List.Elements.{All-nil, All-cons, All-head, All-tail}
use Rattle.winmd_lines.specs.Orders.{Rising}
use Rattle.winmd_sets.specs.Declared.{is_default}
use Rattle.winmd_sets.proofs.SpecLaws.{same_is, same_self}
use Rattle.wr_base.proofs.PartLaws.{either}
use Rattle.wr_base.proofs.TreeLaws.{text_of-tree_of}
use Rattle.wr_base.specs.Trees.{UseTree, within, text_of_tree, same_use, tree_of}
use Rattle.wr_base.specs.Uses.{text_of}
use Rattle.wr_base.specs.declared.type_use.TypeUse.{TypeUse}
use Rattle.wr_base.specs.declared.declaration.Declaration.{Declaration}
use Rattle.wr_base.specs.declared.declaration.Declaration.TheVariants.{Enum, Struct, Delegate, Interface, Class}
use Rattle.wr_base.specs.declared.places.DeclPlaces.{DeclPlaces}
use Rattle.wr_rules.specs.Accepted.{IsUse, has_arguments}
use Rattle.wr_rules.specs.Sites.{Spot, Site, spot_of}
use Rattle.wr_rules.specs.UseRules.{unresolved, wrong_kind, is_by_name}
use Rattle.wr_rules.specs.Uses.{listed, Used, used_at, name_at, optional, uses_at}
use Rattle.writable_sets.specs.Stated.{HasOrder}
use Rattle.writable_sets.proofs.Facts.{RuleFacts}
use Rattle.writable_sets.proofs.Fitting.{un_map, not_false, rising_trees, HasOne}
use Rattle.writable_sets.proofs.Texts.{IsMeantAs, one_use}
use Rattle.writable_sets.proofs.UseFits.{OwnName, split_all}

-- ---- one of a rising list

abbrev Before : List ℕ → List UseTree → Type 0
Before text ts = AllByRecursion (λ t. slice_cmp nat_cmp text (text_of_tree t) ≡ Less) ts

before_more : (text : List ℕ) (t : UseTree) (ts : List UseTree) → slice_cmp nat_cmp text (text_of_tree t) ≡ Less → Before (text_of_tree t) ts → Before text ts
before_more text t [] e h = tt
before_more text t (s ∷ ts) e h = (nat_list_cmp_total.trans text (text_of_tree t) (text_of_tree s) e h.0, before_more text t ts e h.1)

before_all : (t : UseTree) (ts : List UseTree) → Rising text_of_tree (t ∷ ts) → Before (text_of_tree t) ts
before_all t [] h = tt
before_all t (s ∷ ts) h = (h.0, before_more (text_of_tree t) s ts h.0 (before_all s ts h.1))

rising_tail : (t : UseTree) (ts : List UseTree) → Rising text_of_tree (t ∷ ts) → Rising text_of_tree ts
rising_tail t [] h = tt
rising_tail t (s ∷ ts) h = h.1

not_less : (text : List ℕ) → slice_cmp nat_cmp text text ≡ Less → ⊥
not_less text e = let same : Less ≡ Greater = sym e ∙ nat_list_cmp_total.antisymm text text ∙ ap ordering_reverse e in cc

not_same : (t s : UseTree) → (s ≡ t → ⊥) → same_use t s ≡ false
not_same t s h = elim (either (same_use t s)) [
  | inl e ↦ absurd (h (sym (same_is t s e)))
  | inr e ↦ e
]

none_later : (t : UseTree) (ts : List UseTree) → Before (text_of_tree t) ts → filter (same_use t) ts ≡ []
none_later t [] h = refl
none_later t (s ∷ ts) h =
    ap (λ b. cond b (s ∷ filter (same_use t) ts) (filter (same_use t) ts)) (not_same t s (λ e. not_less (text_of_tree t) (subst (λ x. slice_cmp nat_cmp (text_of_tree t) (text_of_tree x) ≡ Less) e h.0)))
    ∙ none_later t ts h.1

only_one : (t : UseTree) (ts : List UseTree) → Rising text_of_tree ts → All (λ s. text_of_tree s ≡ text_of_tree t → s ≡ t) ts → list_any (λ s. bytes_eq (text_of_tree s) (text_of_tree t)) ts ≡ true → filter (same_use t) ts ≡ t ∷ []
only_one t [] r f h = absurd (true≢false (sym h))
only_one t (s ∷ ts) r f h = elim (either (bytes_eq (text_of_tree s) (text_of_tree t))) [
  | inl e ↦
      (let is : s ≡ t = All-head (λ s. text_of_tree s ≡ text_of_tree t → s ≡ t) s ts f ((bytes_decides (text_of_tree s) (text_of_tree t)).0 e) in
      ap (λ b. cond b (s ∷ filter (same_use t) ts) (filter (same_use t) ts)) (ap (same_use t) is ∙ same_self t)
      ∙ ap (λ (x : UseTree). x ∷ filter (same_use t) ts) is
      ∙ ap (λ (xs : List UseTree). t ∷ xs) (none_later t ts (subst (λ (x : UseTree). Before (text_of_tree x) ts) is (before_all s ts r))))
  | inr e ↦
      (let other : same_use t s ≡ false = not_same t s (λ i. true≢false (sym ((bytes_decides (text_of_tree s) (text_of_tree t)).1 (ap text_of_tree i)) ∙ e)) in
      let later : list_any (λ s. bytes_eq (text_of_tree s) (text_of_tree t)) ts ≡ true = ap (λ b. b || list_any (λ s. bytes_eq (text_of_tree s) (text_of_tree t)) ts) (sym e) ∙ h in
      ap (λ b. cond b (s ∷ filter (same_use t) ts) (filter (same_use t) ts)) other
      ∙ only_one t ts (rising_tail s ts r) (All-tail (λ s. text_of_tree s ≡ text_of_tree t → s ≡ t) s ts f) later)
]

no_default : (ts : List UseTree) → filter (is_default None) ts ≡ []
no_default [] = refl
no_default (t ∷ ts) = no_default ts

-- ---- the default of a class

any_tree : (text : List ℕ) (us : List TypeUse) → list_any (λ s. bytes_eq (text_of_tree s) text) (map tree_of us) ≡ list_any (λ u. bytes_eq (text_of u) text) us
any_tree text [] = refl
any_tree text (u ∷ us) =
    ap (λ t. bytes_eq t text || list_any (λ s. bytes_eq (text_of_tree s) text) (map tree_of us)) (text_of-tree_of u) ∙ ap (λ b. bytes_eq (text_of u) text || b) (any_tree text us)

map_all : {X Y : Type 0} (P : Y → Type 0) (f : X → Y) (xs : List X) → All (λ x. P (f x)) xs → All P (map f xs)
map_all P f [] h = All-nil P
map_all P f (x ∷ xs) h = All-cons P (f x) (map f xs) (All-head (λ y. P (f y)) x xs h) (map_all P f xs (All-tail (λ y. P (f y)) x xs h))

module _ (types : List Declaration) (own : All OwnName types) where
  -- a use that means something at every depth, and is of its kind where it isn't one of the names of factories and statics
  abbrev MeansIt : Used → Type 0
  MeansIt u = All (λ v. (unresolved types v ≡ false) × ((not (is_by_name u.role) && wrong_kind types v) ≡ false)) (within u.use_) × (has_arguments u.use_ ≡ true)

  all_mean : (s : Site) → RuleFacts types s → All (λ (u : Used). IsUse u.use_) (uses_at s) → All MeansIt (uses_at s)
  all_mean s r p k d l = ((λ i v m. (r.resolved k d l i v m, r.kinds k d l i v m)), (p k d l).applied)

  abbrev MeansTree : UseTree → Type 0
  MeansTree v = All (IsMeantAs types own) (within v) × (has_arguments v ≡ true)

  one_of : (u : TypeUse) (has : List TypeUse) → MeansTree (tree_of u) → All (λ v. MeansTree (tree_of v)) has → Rising text_of has → list_any (λ v. bytes_eq (text_of v) (text_of u)) has ≡ true → filter (same_use (tree_of u)) (map tree_of has) ≡ tree_of u ∷ []
  one_of u has m ms r h =
      only_one (tree_of u) (map tree_of has) (rising_trees has r)
      (map_all (λ s. text_of_tree s ≡ text_of_tree (tree_of u) → s ≡ tree_of u) tree_of has (λ k d l e. one_use types own (tree_of (get_or has k d)) (tree_of u) (ms k d l).0 m.0 (ms k d l).1 m.1 e))
      (ap (λ t. list_any (λ s. bytes_eq (text_of_tree s) t) (map tree_of has)) (text_of-tree_of u) ∙ any_tree (text_of u) has ∙ h)

  pub has_one : (d : Declaration) (p : DeclPlaces) → RuleFacts types (record { decl = d; places = p }) → All (λ (u : Used). IsUse u.use_) (uses_at (record { decl = d; places = p })) → HasOrder d → HasOne d
  has_one (Enum name version flags cases) p r u n = tt
  has_one (Struct name version fields) p r u n = tt
  has_one (Delegate name version id invoke) p r u n = tt
  has_one (Interface name version id owner requires_ members) p r u n = tt
  has_one (Class name version fixed None has direct factories statics) p r u n = no_default (map tree_of has)
  has_one (Class name version fixed (Some default) has direct factories statics) p r u n =
      let site : Site = record { decl = Class name version fixed (Some default) has direct factories statics; places = p } in
      let spot : Spot = spot_of site in
      let all = all_mean site r u in
      let last = split_all MeansIt (optional listed spot (Some default) ++ map (used_at listed spot) has ++ map (name_at spot) factories) (map (name_at spot) statics) all in
      let next = split_all MeansIt (optional listed spot (Some default) ++ map (used_at listed spot) has) (map (name_at spot) factories) last.0 in
      let first = split_all MeansIt (optional listed spot (Some default)) (map (used_at listed spot) has) next.0 in
      one_of default has (All-head MeansIt (used_at listed spot default) [] first.0) (un_map MeansIt (used_at listed spot) has first.1) n.0 (not_false (list_any (λ v. bytes_eq (text_of v) (text_of default)) has) r.default)

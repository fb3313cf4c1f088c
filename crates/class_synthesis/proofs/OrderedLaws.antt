-- Declarations that are sorted and whose names are apart are in order.
use Rattle.std.proofs.Common.{◌≡◌, ℕ, ◌+◌, ◌<◌, ◌^◌, List, [], ◌∷◌, length, map, get_or, false, refl, sym, ap, subst, ◌∙◌, arith}
use Rattle.std.specs.List.{IsDistinct, AllAdjacentBelow}
use Rattle.std.specs.List.Sorted.{IsPermutation, IsSortedByKey}
use Rattle.std.specs.Ordering.{nat_cmp}
use Rattle.std.specs.Cmp.Lexicographic.{slice_cmp}
use Rattle.std.specs.Str.{bytes_eq}
use Rattle.std.proofs.lemmas.List.{get_or-map, length-map}
use Rattle.std.proofs.lemmas.List.Sorted.{IsPermutation-map, length_permutation}
use Rattle.std.proofs.lemmas.Map.Keys.{apart_from_distinct, IsDistinct-IsPermutation}
use Rattle.wr_base.specs.Declarations.{name_of, Precedes, IsInOrder, IsLeastTwice}
use Rattle.wr_base.specs.Normal.{normal}
use Rattle.wr_base.specs.declared.declaration.Declaration.{Declaration}
use Rattle.wr_base.specs.declared.places.DeclPlaces.{DeclPlaces}
use Rattle.wr_base.specs.declared.places.PlacedTypes.{PlacedTypes}
use Rattle.wr_base.proofs.TypesLemmas.{precedes}
use Rattle.wr_base.proofs.TwiceLemmas.{rises_once}
use Rattle.wr_rules.specs.Sites.{Site, sites_of}
use Rattle.closed_lists.specs.Indexes.{names_in}
use Rattle.closed_lists.specs.Views.{decls_in, sites_in, site_view}
use Rattle.closed_lists.specs.declared.site.PlacedDeclaration.{PlacedDeclaration}
use Rattle.class_synthesis.specs.Full.{in_order}
use Rattle.class_synthesis.specs.Ordered.{placed_name, places_in, IsOrdered}
use Rattle.class_synthesis.proofs.TakenLaws.{flips}

-- a declaration somewhere
abbrev somewhere : Declaration → PlacedDeclaration
somewhere d = record { declaration = d; places = record { at = record { file = 0; offset = 0 }; parts = [] } }

decl_at : (list : List PlacedDeclaration) (k : ℕ) (d : Declaration) → k < length list → get_or (decls_in list) k d ≡ (get_or list k (somewhere d)).declaration
decl_at list k d l = get_or-map (λ (p : PlacedDeclaration). p.declaration) list k (somewhere d) d l

rising : (list : List PlacedDeclaration) → IsSortedByKey placed_name (slice_cmp nat_cmp) list → IsDistinct bytes_eq (names_in list) → AllAdjacentBelow Precedes (decls_in list) (length (decls_in list))
rising list sorted distinct k d high =
    let n : length (decls_in list) ≡ length list = length-map list (λ (p : PlacedDeclaration). p.declaration) in
    let m : length (names_in list) ≡ length list = length-map list placed_name in
    let one : PlacedDeclaration = get_or list k (somewhere d) in
    let two : PlacedDeclaration = get_or list (k + 1) (somewhere d) in
    let apart : bytes_eq (placed_name one) (placed_name two) ≡ false =
    sym (ap (λ x. bytes_eq x (placed_name two)) (get_or-map placed_name list k (somewhere d) [] (omega (arith, high, n))))
    ∙ sym (ap (λ x. bytes_eq (get_or (names_in list) k []) x) (get_or-map placed_name list (k + 1) (somewhere d) [] (omega (arith, high, n))))
    ∙ apart_from_distinct bytes_eq (names_in list) k (k + 1) [] distinct (omega arith) (omega (arith, high, n, m)) in
    let below : Precedes one.declaration two.declaration = precedes (placed_name one) (placed_name two) (sorted k (somewhere d) (omega arith) (omega (arith, high, n))) apart in
    subst (λ (x : Declaration). Precedes x (get_or (decls_in list) (k + 1) d)) (sym (decl_at list k d (omega (arith, high, n))))
    (subst (λ (y : Declaration). Precedes one.declaration y) (sym (decl_at list (k + 1) d (omega (arith, high, n)))) below)

pub sorted_in_order : (old new : List PlacedDeclaration) → IsPermutation old new → IsSortedByKey placed_name (slice_cmp nat_cmp) new → IsDistinct bytes_eq (names_in old) → length old < 2 ^ 32 → IsInOrder (decls_in new)
sorted_in_order old new moved sorted distinct short = record {
  rises = rising new sorted (IsDistinct-IsPermutation bytes_eq flips (names_in old) (names_in new) (IsPermutation-map placed_name old new moved) distinct);
  short = omega (arith, short, length_permutation old new moved, length-map new (λ (p : PlacedDeclaration). p.declaration));
}

-- a list in order has no name twice
pub never_twice : (list : List Declaration) (name : List ℕ) → IsInOrder list → IsLeastTwice list name → ⊥
never_twice list name ordered twice = absurd (omega (arith, twice.twice, rises_once name_of list ordered.rises name))

sites_as : (list : List PlacedDeclaration) → sites_of (map normal (decls_in list)) (places_in list) ≡ map in_order (sites_in list)
sites_as [] = refl
sites_as (p ∷ ps) = ap (λ (ss : List Site). in_order (site_view p) ∷ ss) (sites_as ps)

-- what was sorted, with its lists in order
pub ordered_from : (old new : List PlacedDeclaration) (typed : PlacedTypes) → IsPermutation old new → typed.types ≡ map normal (decls_in new) → typed.places ≡ places_in new → IsInOrder typed.types → IsOrdered (sites_in old) typed
ordered_from old new typed moved types places order = record {
  sites =
      subst (IsPermutation (map in_order (sites_in old)))
      (sym (sites_as new) ∙ sym (ap (λ (ts : List Declaration). sites_of ts (places_in new)) types) ∙ sym (ap (λ (ps : List DeclPlaces). sites_of typed.types ps) places))
      (IsPermutation-map in_order (sites_in old) (sites_in new) (IsPermutation-map site_view old new moved));
  size =
      ap length places ∙ length-map new (λ (p : PlacedDeclaration). p.places)
      ∙ sym (ap length types ∙ length-map (decls_in new) normal ∙ length-map new (λ (p : PlacedDeclaration). p.declaration));
  order = order;
}

-- Lists in the order of sets: those of declarations, and those of their trees.
use Rattle.std.proofs.Common.{◌≡◌, ℕ, Bool, List, [], ◌∷◌, map, length, Option, option_map, refl, sym, ap, ◌∙◌, arith}
use Rattle.std.specs.declared.cmp.Ordering.{Ordering}
use Rattle.std.specs.declared.cmp.Ordering.TheVariants.{Less, Equal, Greater}
use Rattle.std.specs.Ordering.{nat_cmp}
use Rattle.std.specs.Cmp.Lexicographic.{slice_cmp, nat_list_cmp_total}
use Rattle.std.specs.FinMap as finite
use Rattle.std.specs.FinMap.Entries.{by_order}
use Rattle.wr_base.specs.declared.declaration.Declaration.TheVariants.{Interface, Class}
use Rattle.wr_base.specs.declared.declaration.Member.{Member}
use Rattle.wr_base.specs.declared.type_use.TypeUse.{TypeUse}
use Rattle.wr_base.specs.Sets.{keyed}
use Rattle.wr_base.specs.Sets as sets
use Rattle.wr_base.specs.Uses.{text_of}
use Rattle.wr_base.specs.Trees.{UseTree, interface, class, member_tree, text_of_tree, tree_of}
use Rattle.wr_base.proofs.TreeLaws.{text_of-tree_of}
use Rattle.winmd_lines.specs.Orders.{insert_once, placed_once, set_by}
use Rattle.winmd_set.specs.Stated.{set_tree}
use Rattle.winmd_classes.specs.Parts.{interface_with}
use Rattle.winmd_classes.specs.Ways.{class_with}

abbrev cmp : List ℕ → List ℕ → Ordering
cmp a b = slice_cmp nat_cmp a b

no_entries : {A : Type 0} (es : List A) → length es ≡ 0 → es ≡ []
no_entries [] e = refl
no_entries (x ∷ es) e = absurd (omega (arith, e))

-- items seen by `f`, whose keys stay
module _ {X Y : Type 0} (f : X → Y) (key : X → List ℕ) (own : Y → List ℕ) (same : (x : X) → own (f x) ≡ key x) where
  abbrev entry : List ℕ × X → List ℕ × Y
  entry e = (e.0, f e.1)

  abbrev entries_of : List X → List (List ℕ × X)
  entries_of xs = finite.entries (finite.from_entries {R = slice_cmp nat_cmp} (keyed key xs))

  placed_keyed : (y z : Y) (zs inserted : List Y) (o : Ordering) → cmp (own y) (own z) ≡ o
      → by_order o ((own y, y) ∷ keyed own (z ∷ zs)) ((own z, y) ∷ keyed own zs) ((own z, z) ∷ keyed own inserted) ≡ keyed own (placed_once o y z zs inserted)
  placed_keyed y z zs inserted Less e = refl
  placed_keyed y z zs inserted Equal e = ap (λ (k : List ℕ). (k, y) ∷ keyed own zs) (sym (finite.slice_cmp-IsAntisymmetric finite.nat_cmp-IsAntisymmetric (own y) (own z) e))
  placed_keyed y z zs inserted Greater e = refl

  put_keyed : (y : Y) (zs : List Y) → finite.put (slice_cmp nat_cmp) (own y) y (keyed own zs) ≡ keyed own (insert_once own y zs)
  put_keyed y [] = refl
  put_keyed y (z ∷ zs) =
      ap (λ (es : List (List ℕ × Y)). by_order (cmp (own y) (own z)) ((own y, y) ∷ keyed own (z ∷ zs)) ((own z, y) ∷ keyed own zs) ((own z, z) ∷ es)) (put_keyed y zs)
      ∙ placed_keyed y z zs (insert_once own y zs) (cmp (own y) (own z)) refl

  placed_map : (k : List ℕ) (x : X) (e : List ℕ × X) (es inserted : List (List ℕ × X)) (o : Ordering)
      → map entry (by_order o ((k, x) ∷ e ∷ es) ((e.0, x) ∷ es) (e ∷ inserted)) ≡ by_order o ((k, f x) ∷ map entry (e ∷ es)) ((e.0, f x) ∷ map entry es) (entry e ∷ map entry inserted)
  placed_map k x e es inserted Less = refl
  placed_map k x e es inserted Equal = refl
  placed_map k x e es inserted Greater = refl

  put_map : (k : List ℕ) (x : X) (es : List (List ℕ × X)) → map entry (finite.put (slice_cmp nat_cmp) k x es) ≡ finite.put (slice_cmp nat_cmp) k (f x) (map entry es)
  put_map k x [] = refl
  put_map k x (e ∷ es) =
      placed_map k x e es (finite.put (slice_cmp nat_cmp) k x es) (cmp k e.0)
      ∙ ap (λ (others : List (List ℕ × Y)). by_order (cmp k e.0) ((k, f x) ∷ map entry (e ∷ es)) ((e.0, f x) ∷ map entry es) (entry e ∷ others)) (put_map k x es)

  entries_are : (xs : List X) → map entry (entries_of xs) ≡ keyed own (set_by own (map f xs))
  entries_are [] = ap (map entry) (no_entries (entries_of []) (sym (finite.len-entries finite.empty) ∙ finite.len-empty (slice_cmp nat_cmp) X))
  entries_are (x ∷ xs) =
      ap (map entry) (finite.entries-insert nat_list_cmp_total _ (key x) x)
      ∙ put_map (key x) x (entries_of xs)
      ∙ ap (λ (es : List (List ℕ × Y)). finite.put (slice_cmp nat_cmp) (key x) (f x) es) (entries_are xs)
      ∙ ap (λ (k : List ℕ). finite.put (slice_cmp nat_cmp) k (f x) (keyed own (set_by own (map f xs)))) (sym (same x))
      ∙ put_keyed (f x) (set_by own (map f xs))

  values_map : (es : List (List ℕ × X)) → map f (map (λ e. e.1) es) ≡ map (λ e. e.1) (map entry es)
  values_map [] = refl
  values_map (e ∷ es) = ap (λ (ys : List Y). f e.1 ∷ ys) (values_map es)

  values_keyed : (ys : List Y) → map (λ e. e.1) (keyed own ys) ≡ ys
  values_keyed [] = refl
  values_keyed (y ∷ ys) = ap (λ (zs : List Y). y ∷ zs) (values_keyed ys)

  pub set_seen : (xs : List X) → map f (sets.set_by key xs) ≡ set_by own (map f xs)
  set_seen xs = values_map (entries_of xs) ∙ ap (map (λ e. e.1)) (entries_are xs) ∙ values_keyed (set_by own (map f xs))

same_list : {A : Type 0} (xs : List A) → map (λ x. x) xs ≡ xs
same_list [] = refl
same_list (x ∷ xs) = ap (λ ys. x ∷ ys) (same_list xs)

uses_seen : (us : List TypeUse) → map tree_of (sets.set_by text_of us) ≡ set_by text_of_tree (map tree_of us)
uses_seen us = set_seen tree_of text_of text_of_tree text_of-tree_of us

names_seen : (names : List (List ℕ)) → sets.set_by (λ name. name) names ≡ set_by (λ name. name) names
names_seen names = sym (same_list (sets.set_by (λ name. name) names)) ∙ set_seen (λ name. name) (λ name. name) (λ name. name) (λ name. refl) names ∙ ap (set_by (λ name. name)) (same_list names)

pub interface_tree : (name : List ℕ) (version id : ℕ) (owner : Option (List ℕ)) (requires_ : List TypeUse) (members : List Member)
    → set_tree (Interface name version id owner requires_ members) ≡ interface_with name version id owner (map tree_of requires_, map member_tree members)
interface_tree name version id owner requires_ members = ap (λ (us : List UseTree). interface name version id owner us (map member_tree members)) (uses_seen requires_)

pub class_tree : (name : List ℕ) (version : ℕ) (fixed : Bool) (default : Option TypeUse) (has : List TypeUse) (direct : Bool) (factories statics : List (List ℕ))
    → set_tree (Class name version fixed default has direct factories statics) ≡ class_with name version fixed (option_map tree_of default, map tree_of has) (direct, factories, statics)
class_tree name version fixed default has direct factories statics =
    ap (λ (us : List UseTree). class name version fixed (option_map tree_of default) us direct (sets.set_by (λ name. name) factories) (sets.set_by (λ name. name) statics)) (uses_seen has)
    ∙ ap (λ (fs : List (List ℕ)). class name version fixed (option_map tree_of default) (set_by text_of_tree (map tree_of has)) direct fs (sets.set_by (λ name. name) statics)) (names_seen factories)
    ∙ ap (λ (ss : List (List ℕ)). class name version fixed (option_map tree_of default) (set_by text_of_tree (map tree_of has)) direct (set_by (λ name. name) factories) ss) (names_seen statics)

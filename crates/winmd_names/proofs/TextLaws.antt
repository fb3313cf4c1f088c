-- Uses sorted with their texts are sorted by text.
use Rattle.std.proofs.Common.{◌≡◌, ℕ, List, [], ◌∷◌, map, refl, ap, ◌∙◌}
use Rattle.std.specs.Ordering.{nat_cmp}
use Rattle.std.specs.Cmp.Lexicographic.{slice_cmp}
use Rattle.std.specs.declared.cmp.Ordering.{Ordering}
use Rattle.std.specs.declared.cmp.Ordering.TheVariants.{Less, Equal, Greater}
use Rattle.wr_base.specs.Trees.{UseTree, text_of_tree}
use Rattle.winmd_sets.specs.Rows.{by_text, insert_by_text, placed_by_text}
use Rattle.winmd_names.proofs.OrderLaws.{placed, put_in, sorted_in}

module _ {A : Type 0} (key : A → List ℕ) (tree : A → UseTree) (agree : (x : A) → key x ≡ text_of_tree (tree x)) where
  placed_trees : (x y : A) (ys : List A) (inserted : List A) (o : Ordering) → map tree (placed key o x y ys inserted) ≡ placed_by_text o (tree x) (tree y) (map tree ys) (map tree inserted)
  placed_trees x y ys inserted Less = refl
  placed_trees x y ys inserted Equal = refl
  placed_trees x y ys inserted Greater = refl

  put_trees : (x : A) (ys : List A) → map tree (put_in key x ys) ≡ insert_by_text (tree x) (map tree ys)
  put_trees x [] = refl
  put_trees x (y ∷ ys) =
      placed_trees x y ys (put_in key x ys) (slice_cmp nat_cmp (key x) (key y))
      ∙ ap (λ (o : Ordering). placed_by_text o (tree x) (tree y) (map tree ys) (map tree (put_in key x ys))) (ap (λ (k : List ℕ). slice_cmp nat_cmp k (key y)) (agree x) ∙ ap (slice_cmp nat_cmp (text_of_tree (tree x))) (agree y))
      ∙ ap (placed_by_text (slice_cmp nat_cmp (text_of_tree (tree x)) (text_of_tree (tree y))) (tree x) (tree y) (map tree ys)) (put_trees x ys)

  pub sorted_trees : (xs : List A) → map tree (sorted_in key xs) ≡ by_text (map tree xs)
  sorted_trees [] = refl
  sorted_trees (x ∷ xs) = put_trees x (sorted_in key xs) ∙ ap (insert_by_text (tree x)) (sorted_trees xs)

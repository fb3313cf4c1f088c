-- Declarations are known by their trees.
use Rattle.std.proofs.Common.{◌≡◌, List, [], ◌∷◌, map, Result, Ok, refl}
use Rattle.winmd_rows.specs.Faults.{Fault}
use Rattle.wr_base.specs.declared.declaration.Declaration.{Declaration}
use Rattle.wr_base.specs.Trees.{DeclTree, decl_tree}
use Rattle.wr_base.proofs.TreeLaws.{decl_tree-injective}

same_lists : (xs ys : List Declaration) → map decl_tree xs ≡ map decl_tree ys → xs ≡ ys
same_lists [] [] e = refl
same_lists [] (y ∷ ys) e = absurd cc
same_lists (x ∷ xs) [] e = absurd cc
same_lists (x ∷ xs) (y ∷ ys) e =
    let heads : decl_tree x ≡ decl_tree y = cc in
    let tails : map decl_tree xs ≡ map decl_tree ys = cc in
    let first : x ≡ y = decl_tree-injective x y heads in
    let others : xs ≡ ys = same_lists xs ys tails in
    cc

-- two sets that an image states
pub same_types : (answer : Result (List DeclTree) Fault) (xs ys : List Declaration) → answer ≡ Ok (map decl_tree xs) → answer ≡ Ok (map decl_tree ys) → xs ≡ ys
same_types answer xs ys a b = let e : map decl_tree xs ≡ map decl_tree ys = cc in same_lists xs ys e

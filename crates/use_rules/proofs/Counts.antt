-- The number of an instance's arguments.
use Rattle.std.specs.List.{list_any}
use Rattle.std.proofs.Common.{◌≡◌, ◌||◌, Bool, List, [], ◌∷◌, map, length, refl, ap, sym, ◌∙◌}
use Rattle.std.proofs.lemmas.List.{length-map}
use Rattle.wr_base.specs.declared.type_use.TypeUse.{TypeUse}
use Rattle.wr_base.specs.Trees.{UseTree, list_of, uses_of, tree_of}

list_back : (us : List UseTree) → list_of (uses_of us) ≡ us
list_back [] = refl
list_back (u ∷ us) = ap (λ (vs : List UseTree). u ∷ vs) (list_back us)

pub count_of_uses : (us : List TypeUse) → length us ≡ length (list_of (uses_of (map tree_of us)))
count_of_uses us = sym (ap length (list_back (map tree_of us)) ∙ length-map us tree_of)

pub any_of_uses : (us : List TypeUse) → list_of (uses_of (map tree_of us)) ≡ map tree_of us
any_of_uses us = list_back (map tree_of us)

any_mapped : (test : UseTree → Bool) (us : List TypeUse) → list_any (λ u. test (tree_of u)) us ≡ list_any test (map tree_of us)
any_mapped test [] = refl
any_mapped test (u ∷ us) = ap (λ b. test (tree_of u) || b) (any_mapped test us)

pub any_argument : (test : UseTree → Bool) (us : List TypeUse) → list_any (λ u. test (tree_of u)) us ≡ list_any test (list_of (uses_of (map tree_of us)))
any_argument test us = any_mapped test us ∙ ap (list_any test) (sym (any_of_uses us))

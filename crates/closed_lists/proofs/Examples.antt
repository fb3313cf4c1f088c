-- A list that leads on, and what it doesn't lead to.
use Rattle.std.proofs.Common.{◌≡◌, ℕ, List, [], ◌∷◌, Some, None, false, true, refl, sym, ap, ◌∙◌}
use Rattle.std.specs.Prelude.{codes}
use Rattle.wr_base.specs.Uses.{text_of}
use Rattle.wr_base.specs.Trees.{text_of_tree}
use Rattle.wr_base.specs.declared.type_use.TypeUse.TheVariants.{Reference}
use Rattle.wr_base.specs.declared.declaration.Declaration.{Declaration}
use Rattle.wr_base.specs.declared.declaration.Declaration.TheVariants.{Enum, Interface, Class}
use Rattle.wr_base.proofs.TreeLaws.{text_of-tree_of, tree_Reference}
use Rattle.wr_rules.specs.Closures.{Closed, listed, required}
use Rattle.closed_lists.specs.Closures.{with_list}
use Rattle.closed_lists.specs.Indexes.{position}

text_of-Reference : (name : List ℕ) → text_of (Reference name) ≡ name
text_of-Reference name = sym (text_of-tree_of (Reference name)) ∙ ap text_of_tree (tree_Reference name)

-- the first of two places of a name, and none of a name that doesn't stand there
places : (position (codes "A.B" ∷ codes "C.D" ∷ codes "A.B" ∷ []) (codes "A.B") ≡ Some 0) × (position (codes "A.B" ∷ codes "C.D" ∷ []) (codes "C.D") ≡ Some 1) × (position (codes "A.B" ∷ []) (codes "A.b") ≡ None)
places = (refl, refl, refl)

-- the list of a class is `has`, and its default, factories and statics stay; an enum has no list
set : (with_list (Reference (codes "S.IB") ∷ []) (Class (codes "S.C") 1 false None [] true (codes "S.IF" ∷ []) []) ≡ Class (codes "S.C") 1 false None (Reference (codes "S.IB") ∷ []) true (codes "S.IF" ∷ []) [])
    × (with_list (Reference (codes "S.IB") ∷ []) (Enum (codes "S.E") 1 false []) ≡ Enum (codes "S.E") 1 false [])
set = (refl, refl)

-- SA requires SB, which requires SC
abbrev row : List Declaration
row =
    Interface (codes "S.A") 1 1 None (Reference (codes "S.B") ∷ []) [] ∷ Interface (codes "S.B") 1 2 None (Reference (codes "S.C") ∷ []) []
    ∷ Interface (codes "S.C") 1 3 None [] [] ∷ []

-- two steps on
onward : Closed row (Reference (codes "S.A") ∷ []) (codes "S.C")
onward =
    required {text = codes "S.B"} (required {text = codes "S.A"} (listed {text = codes "S.A"} (rw (text_of-Reference (codes "S.A")) refl)) (rw (text_of-Reference (codes "S.B")) refl))
    (rw (text_of-Reference (codes "S.C")) refl)

-- Uses are one use exactly where their trees are told to be the same.
use Rattle.std.proofs.Common.{◌≡◌, ◌↔◌, IsTrue, Bool, true, false, refl, sym, ap, ◌∙◌, inl, inr}
use Rattle.winmd_lines.proofs.LineLaws.{either}
use Rattle.wr_base.specs.Trees.{same_use, tree_of}
use Rattle.wr_base.specs.declared.type_use.TypeUse.{TypeUse}
use Rattle.wr_base.proofs.TreeLaws.{same_use-is, same_use-refl, tree_of-injective}

pub is_same : (r : Bool) (a b : TypeUse) → IsTrue r ↔ (a ≡ b) → r ≡ same_use (tree_of a) (tree_of b)
is_same true a b h = sym (ap (same_use (tree_of a)) (ap tree_of (sym (h.0 refl))) ∙ same_use-refl (tree_of a))
is_same false a b h =
    elim (either (same_use (tree_of a) (tree_of b))) [
      | inl e ↦ absurd (let t = h.1 (tree_of-injective a b (same_use-is (tree_of a) (tree_of b) e)) in cc)
      | inr e ↦ sym e
    ]

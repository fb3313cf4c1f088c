use Rattle.std.proofs.Common.{◌∙◌, ℕ, List, [], ◌∷◌, ◌++◌, sym, ap, subst, arith}
use Rattle.md_heaps.specs.Heaps.{Heap, EachStands, index_of}
use Rattle.md_heaps.specs.Texts.{TextAt}
use Rattle.md_heaps.proofs.HeapLaws.{index_of-nothing, nothing_stands, stands_with, found_new}
use Rattle.md_heaps.proofs.TextLaws.{text_grows, text_new}
use Rattle.md_heaps.proofs.texts.TextHeap.new.Goals as goal

pub add-requires-clause-absent : goal.add-requires-clause-absent
add-requires-clause-absent c = index_of-nothing c.new-store.result [] c.new-store.ensures.entries

pub invariant_of-result : goal.invariant_of-result
invariant_of-result c =
    let stands : TextAt (c.new-store.result.bytes ++ 0 ∷ []) 0 [] = subst (λ (b : List ℕ). TextAt (b ++ 0 ∷ []) 0 []) (sym c.new-store.ensures.bytes) (text_new [] [] (λ k d h e. absurd (omega (arith, h)))) in
    subst (λ (h : Heap). EachStands TextAt h) (sym c.in_ok-add.ensures.added)
    (stands_with TextAt text_grows c.new-store.result [] (0 ∷ []) 0 (nothing_stands TextAt c.new-store.result c.new-store.ensures.entries) stands)

pub returns-clause-empty : goal.returns-clause-empty
returns-clause-empty c = ap (λ (h : Heap). index_of h []) c.in_ok-add.ensures.added ∙ found_new c.new-store.result [] (0 ∷ []) 0

use Rattle.std.proofs.Common.{◌∙◌, ℕ, List, [], ◌∷◌, ◌++◌, sym, ap, subst, refl}
use Rattle.md_heaps.specs.Heaps.{Heap, EachStands, index_of}
use Rattle.md_heaps.specs.Blobs.{BlobHere}
use Rattle.md_heaps.proofs.HeapLaws.{index_of-nothing, nothing_stands, stands_with, found_new}
use Rattle.md_heaps.proofs.BlobLaws.{here_grows}
use Rattle.md_heaps.proofs.blobs.BlobHeap.new.Goals as goal

pub add-requires-clause-absent : goal.add-requires-clause-absent
add-requires-clause-absent c = index_of-nothing c.new-store.result [] c.new-store.ensures.entries

pub invariant_of-result : goal.invariant_of-result
invariant_of-result c =
    let stands : BlobHere (c.new-store.result.bytes ++ 0 ∷ []) 0 [] = subst (λ (b : List ℕ). BlobHere (b ++ 0 ∷ []) 0 []) (sym c.new-store.ensures.bytes) (refl) in
    subst (λ (h : Heap). EachStands BlobHere h) (sym c.in_ok-add.ensures.added)
    (stands_with BlobHere here_grows c.new-store.result [] (0 ∷ []) 0 (nothing_stands BlobHere c.new-store.result c.new-store.ensures.entries) stands)

pub returns-clause-empty : goal.returns-clause-empty
returns-clause-empty c = ap (λ (h : Heap). index_of h []) c.in_ok-add.ensures.added ∙ found_new c.new-store.result [] (0 ∷ []) 0

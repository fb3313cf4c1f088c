use Rattle.std.proofs.Common.{◌≡◌, ℕ, List, length, ap, subst, sym, ◌∙◌, ◌++◌}
use Rattle.md_heaps.specs.Heaps.{Heap, EachStands, Keeps, index_of, with_entry}
use Rattle.md_heaps.specs.Blobs.{BlobHere, blob_bytes}
use Rattle.md_heaps.proofs.HeapLaws.{keeps_new, stands_with, stands_new, found_new}
use Rattle.md_heaps.proofs.BlobLaws.{here_grows}
use Rattle.md_heaps.proofs.blobs.BlobHeap.intern.Goals as goal

-- the heap with the blob at its end has each blob where it stands
put : (heap new : Heap) (blob : List ℕ) (at : ℕ) → EachStands BlobHere heap → at ≡ length heap.bytes → new ≡ with_entry heap blob (blob_bytes blob) at → EachStands BlobHere new
put heap new blob at each end added =
    subst (λ (h : Heap). EachStands BlobHere h) (sym added)
    (stands_with BlobHere here_grows heap blob (blob_bytes blob) at each (subst (λ (n : ℕ). BlobHere (heap.bytes ++ blob_bytes blob) n blob) (sym end) (stands_new heap.bytes (blob_bytes blob))))

pub invariant_of-self-in-Ok : goal.invariant_of-self-in-Ok
invariant_of-self-in-Ok c = put c.self.inside.store c.add_blob.new.store c.args.blob.now c.in-Ok.at c.self.invariant c.in-Ok.ensures.length c.in_ok-add_blob-in-Ok.ensures.added

pub returns-in_ok-add_blob-in-Ok-clause-standing : goal.returns-in_ok-add_blob-in-Ok-clause-standing
returns-in_ok-add_blob-in-Ok-clause-standing c =
    put c.self.inside.store c.add_blob.new.store c.args.blob.now c.in-Ok.at c.self.invariant c.in-Ok.ensures.length c.in_ok-add_blob-in-Ok.ensures.added

pub returns-in_ok-add_blob-in-Ok-clause-found : goal.returns-in_ok-add_blob-in-Ok-clause-found
returns-in_ok-add_blob-in-Ok-clause-found c =
    ap (λ (h : Heap). index_of h c.args.blob.now) c.in_ok-add_blob-in-Ok.ensures.added ∙ found_new c.self.inside.store c.args.blob.now (blob_bytes c.args.blob.now) c.in-Ok.at

pub returns-in_ok-add_blob-in-Ok-clause-keeps : goal.returns-in_ok-add_blob-in-Ok-clause-keeps
returns-in_ok-add_blob-in-Ok-clause-keeps c =
    subst (λ (h : Heap). Keeps h c.add_blob.new.store) c.self.view_is
    (subst (λ (h : Heap). Keeps c.self.inside.store h) (sym c.in_ok-add_blob-in-Ok.ensures.added)
    (keeps_new c.self.inside.store c.args.blob.now (blob_bytes c.args.blob.now) c.in-Ok.at (sym c.find.ensures ∙ c.in_default.is)))

use Rattle.std.proofs.Common.{subst}
use Rattle.md_heaps.specs.Heaps.{Heap, EachStands}
use Rattle.md_heaps.specs.Blobs.{BlobHere}
use Rattle.md_heaps.proofs.blobs.BlobHeap.bytes.Goals as goal

pub returns-clause-standing : goal.returns-clause-standing
returns-clause-standing c = subst (λ (h : Heap). EachStands BlobHere h) c.self.view_is c.self.invariant

use Rattle.std.proofs.Common.{subst}
use Rattle.md_heaps.specs.Heaps.{Heap, EachStands}
use Rattle.md_heaps.specs.Guids.{GuidAt}
use Rattle.md_heaps.proofs.guids.GuidHeap.bytes.Goals as goal

pub returns-clause-standing : goal.returns-clause-standing
returns-clause-standing c = subst (λ (h : Heap). EachStands GuidAt h) c.self.view_is c.self.invariant.1

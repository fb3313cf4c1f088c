use Rattle.std.proofs.Common.{◌≡◌, ℕ, ◌%◌, List, length, sym, subst, refl}
use Rattle.md_heaps.specs.Guids.{GuidAt}
use Rattle.md_heaps.proofs.HeapLaws.{nothing_stands}
use Rattle.md_heaps.proofs.guids.GuidHeap.new.Goals as goal

pub invariant_of-result : goal.invariant_of-result
invariant_of-result c = (
  subst (λ (b : List ℕ). length b % 16 ≡ 0) (sym c.new.ensures.bytes) refl,
  nothing_stands GuidAt c.new.result c.new.ensures.entries,
)

-- A GUID that is written stands at its index, and stays.
use Rattle.std.proofs.Common.{◌≡◌, ℕ, ◌+◌, ◌-◌, ◌*◌, ◌/◌, ◌%◌, List, ◌++◌, length, subst, arith}
use Rattle.md_heaps.specs.Guids.{GuidAt}
use Rattle.md_heaps.specs.Heaps.{StandsAt}
use Rattle.md_heaps.proofs.HeapLaws.{stands_grows, stands_new}

pub guid_grows : (bytes more guid : List ℕ) (index : ℕ) → GuidAt bytes index guid → GuidAt (bytes ++ more) index guid
guid_grows bytes more guid index h = record { counted = h.counted; whole = stands_grows bytes more guid (16 * (index - 1)) h.whole; sixteen = h.sixteen }

pub guid_new : (bytes guid : List ℕ) → length bytes % 16 ≡ 0 → length guid ≡ 16 → GuidAt (bytes ++ guid) (length bytes / 16 + 1) guid
guid_new bytes guid even sixteen =
    let place : length bytes ≡ 16 * (length bytes / 16 + 1 - 1) = omega arith in
    record { counted = omega arith; whole = subst (λ (n : ℕ). StandsAt (bytes ++ guid) n guid) place (stands_new bytes guid); sixteen = sixteen }

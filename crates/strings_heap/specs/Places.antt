-- What is known at each block's ends.
use Rattle.std.specs.Prelude.{◌≡◌, ℕ, ◌+◌, ◌-◌, ◌*◌, ◌/◌, ◌<◌, ◌==◌, List, length, drop, min, slice_index_or}
use Rattle.std.specs.List.{position_or_len}
use Rattle.strings_heap.specs.Texts.{AreMarks}
use Rattle.strings_heap.specs.declared.place.Place.{Place}

-- where the first zero from the place on stands, or the bytes' length
abbrev pub first_zero : List ℕ → ℕ → ℕ
first_zero bytes at = at + position_or_len (λ b. b == 0) (drop at bytes)

pub record IsPlace (bytes : List ℕ) (at : ℕ) (place : Place) : Type 0 where
  pub marks : AreMarks bytes at place.marks
  pub zero : place.zero ≡ first_zero bytes at

-- From the last to the first, the places at the ends of blocks of 64 bytes, of which the last may be shorter.
pub record ArePlaces (bytes : List ℕ) (places : List Place) : Type 0 where
  pub count : length places ≡ (length bytes + 63) / 64 + 1
  pub each : (block : ℕ) (d : Place) → block < length places → IsPlace bytes (min (64 * block) (length bytes)) (slice_index_or places (length places - 1 - block) d)

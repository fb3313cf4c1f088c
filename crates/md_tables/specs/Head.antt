-- The header of the tables' stream, from its heap bits and Valid.
use Rattle.std.specs.Prelude.{ℕ, List, [], ◌∷◌, ◌++◌}
use Rattle.md_bytes.specs.Bytes.{le}

-- reserved, version 2.0, the heap bits, reserved, Valid and Sorted
abbrev pub head_bytes : ℕ → ℕ → List ℕ
head_bytes heaps valid = (0 ∷ 0 ∷ 0 ∷ 0 ∷ 2 ∷ 0 ∷ heaps ∷ 1 ∷ []) ++ le 8 valid ++ le 8 0x000016003301FA00

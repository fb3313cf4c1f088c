-- Compressed unsigned integers (ECMA-335 II.23.2): lead bits that say how many bytes there are, and then the value, the highest byte first.
use Rattle.std.specs.Prelude.{◌≡◌, ℕ, ◌+◌, ◌-◌, ◌^◌, ◌<◌, ◌≤◌, ◌⊎◌, List, length, slice_index, Result, Ok, Err, nat_lt, if◌then◌else◌}
use Rattle.byteorder.specs.Endian.{big_number, big_bytes}
use Rattle.md_heaps.specs.Faults.{ImageFault, BadLead, Short}
use Rattle.md_schema.specs.Faults.{fault_at}

-- the integer in so many bytes at the front, less its lead bits, unless the bytes end before
abbrev pub in_bytes : ℕ → ℕ → List ℕ → Result (ℕ × ℕ) ImageFault
in_bytes size lead bytes = if nat_lt (length bytes) size then Err (fault_at Short 0) else Ok (big_number size bytes - lead, size)

-- The integer at the front and its size: one byte behind the bit 0, two behind the bits 10, four behind 110.
abbrev pub compressed_of : List ℕ → Result (ℕ × ℕ) ImageFault
compressed_of bytes =
    if nat_lt (slice_index bytes 0) 0x80 then in_bytes 1 0 bytes
    else if nat_lt (slice_index bytes 0) 0xC0 then in_bytes 2 0x8000 bytes
    else if nat_lt (slice_index bytes 0) 0xE0 then in_bytes 4 0xC0000000 bytes
    else Err (fault_at BadLead 0)

-- the bytes end before the integer that begins at their front does
abbrev pub IsCut : List ℕ → Type 0
IsCut bytes =
    (length bytes ≡ 0) ⊎ ((0x80 ≤ slice_index bytes 0) × (slice_index bytes 0 < 0xC0) × (length bytes < 2)
    ⊎ (0xC0 ≤ slice_index bytes 0) × (slice_index bytes 0 < 0xE0) × (length bytes < 4))

-- the first byte has the lead bits 111
abbrev pub HasBadLead : List ℕ → Type 0
HasBadLead bytes = 0xE0 ≤ slice_index bytes 0

-- An integer is spelled by bytes in one of the three forms that have room for it.
abbrev pub Spells : List ℕ → ℕ → Type 0
Spells bytes value =
    (value < 2 ^ 7) × (bytes ≡ big_bytes 1 value)
    ⊎ ((value < 2 ^ 14) × (bytes ≡ big_bytes 2 (0x8000 + value))
    ⊎ (value < 2 ^ 29) × (bytes ≡ big_bytes 4 (0xC0000000 + value)))

-- the shortest form that has room for the integer
abbrev pub shortest : ℕ → List ℕ
shortest value =
    if nat_lt value 0x80 then big_bytes 1 value
    else if nat_lt value 0x4000 then big_bytes 2 (0x8000 + value)
    else big_bytes 4 (0xC0000000 + value)

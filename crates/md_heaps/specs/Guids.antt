-- `#GUID` (ECMA-335 II.24.2.5): GUIDs of 16 bytes each, counted from 1.
use Rattle.std.specs.Prelude.{◌≡◌, ℕ, ◌+◌, ◌-◌, ◌*◌, ◌^◌, ◌<◌, List, [], length, drop}
use Rattle.byteorder.specs.Endian.{little_number, big_number}
use Rattle.std.specs.FinMap.{empty}
use Rattle.md_heaps.specs.Heaps.{Heap, StandsAt}

-- The number of a GUID (RFC 9562), from its bytes: Data1, Data2 and Data3 have their lowest byte first, Data4 is eight bytes as they stand.
abbrev pub guid_number : List ℕ → ℕ
guid_number bytes =
    little_number 4 bytes * 2 ^ 96 + little_number 2 (drop 4 bytes) * 2 ^ 80 + little_number 2 (drop 6 bytes) * 2 ^ 64 + big_number 8 (drop 8 bytes)

-- the GUID at the index is these bytes
pub record GuidAt (heap : List ℕ) (index : ℕ) (guid : List ℕ) : Type 0 where
  pub counted : 0 < index
  pub whole : StandsAt heap (16 * (index - 1)) guid
  pub sixteen : length guid ≡ 16

-- a new heap
abbrev pub no_guid : Heap
no_guid = record { bytes = []; entries = empty }

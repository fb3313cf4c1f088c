-- What stands at an index of a heap (ECMA-335 II.24.2.3 to II.24.2.5). An index past its heap is a fault at 0; any other fault stands at the index.
use Rattle.std.specs.Prelude.{ℕ, zero, suc, ◌+◌, ◌-◌, ◌*◌, List, [], ◌∷◌, length, take, drop, Option, Some, None, Result, Ok, Err, nat_lt, ◌&&◌, if◌then◌else◌}
use Rattle.std.specs.Str.{is_utf8}
use Rattle.md_heaps.specs.Faults.{ImageFault, past_heap, HeapText, BadLength}
use Rattle.md_schema.specs.Faults.{fault_at}
use Rattle.md_heaps.specs.Guids.{guid_number}
use Rattle.md_heaps.specs.Integers.{compressed_of}

-- ---- a text

abbrev pub longer : ℕ → Option (List ℕ) → Option (List ℕ)
longer b None = None
longer b (Some bytes) = Some (b ∷ bytes)

-- the bytes before the first zero, if there is one
abbrev pub until_zero : List ℕ → Option (List ℕ)
until_zero [] = None
until_zero (zero ∷ bytes) = Some []
until_zero (suc b ∷ bytes) = longer (suc b) (until_zero bytes)

-- a text ends, and is UTF-8
abbrev pub ended : ℕ → Option (List ℕ) → Result (List ℕ) ImageFault
ended at None = Err (fault_at HeapText at)
ended at (Some text) = if is_utf8 text then Ok text else Err (fault_at HeapText at)

abbrev pub text_at : List ℕ → ℕ → Result (List ℕ) ImageFault
text_at heap at = if nat_lt at (length heap) then ended at (until_zero (drop at heap)) else Err past_heap

-- ---- a blob

abbrev pub found_at : {A : Type 0} → ℕ → Result A ImageFault → Result A ImageFault
found_at at (Ok found) = Ok found
found_at at (Err fault) = Err (fault_at fault.kind at)

-- the compressed integer at an index, and how many bytes it takes
abbrev pub compressed_at : List ℕ → ℕ → Result (ℕ × ℕ) ImageFault
compressed_at bytes at = found_at at (compressed_of (drop at bytes))

-- so many bytes as the integer at the index says, behind it
abbrev pub behind_length : List ℕ → ℕ → Result (ℕ × ℕ) ImageFault → Result (List ℕ) ImageFault
behind_length heap at (Ok found) = if nat_lt (length heap) (at + found.1 + found.0) then Err (fault_at BadLength at) else Ok (take found.0 (drop (at + found.1) heap))
behind_length heap at (Err fault) = Err fault

abbrev pub blob_at : List ℕ → ℕ → Result (List ℕ) ImageFault
blob_at heap at = if nat_lt at (length heap) then behind_length heap at (compressed_at heap at) else Err past_heap

-- ---- a GUID, by its number; the first index is 1

abbrev pub guid_at : List ℕ → ℕ → Result ℕ ImageFault
guid_at heap index =
    if nat_lt 0 index && nat_lt (16 * index) (length heap + 1) then Ok (guid_number (take 16 (drop (16 * (index - 1)) heap)))
    else Err past_heap

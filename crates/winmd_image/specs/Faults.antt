-- Steps of reading, of which the first fault is the answer.
use Rattle.std.specs.Prelude.{ℕ, ◌+◌, nat_lt, bytes_eq, List, length, Result, Ok, Err, Bool, true, false, if◌then◌else◌}
use Rattle.md_bytes.specs.Bytes.{number_at, part_at}
use Rattle.md_schema.specs.Faults.{fault_at}
use Rattle.md_schema.specs.declared.faults.ImageFault.{ImageFault}
use Rattle.md_schema.specs.declared.faults.ImageKind.{ImageKind}

abbrev pub fault : {A : Type 0} → ImageKind → ℕ → Result A ImageFault
fault kind offset = Err (fault_at kind offset)

infixl 10 ◌>>=◌
abbrev pub ◌>>=◌ : {A B : Type 0} → Result A ImageFault → (A → Result B ImageFault) → Result B ImageFault
(Ok x) >>= f = f x
(Err e) >>= f = Err e

-- a test that has to hold
abbrev pub checked : Bool → ImageKind → ℕ → Result Bool ImageFault
checked true kind offset = Ok true
checked false kind offset = fault kind offset

-- the number of so many bytes at an offset, within the bytes
abbrev pub field : List ℕ → ImageKind → ℕ → ℕ → Result ℕ ImageFault
field bytes kind offset width = if nat_lt (length bytes) (offset + width) then fault kind offset else Ok (number_at bytes offset width)

-- a text stands at an offset
abbrev pub begins : List ℕ → ℕ → List ℕ → Bool
begins bytes offset text = bytes_eq (part_at bytes offset (length text)) text

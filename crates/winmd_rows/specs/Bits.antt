-- The values of cases in 32 bits.
use Rattle.std.specs.Prelude.{ℕ, suc, ◌-◌, ◌^◌, Bool, true, false, nat_lt, if◌then◌else◌, ℤ, pos, negsuc}

-- the 32 bits of a number, as two's complement
abbrev pub bits_of_int : ℤ → ℕ
bits_of_int (pos n) = n
bits_of_int (negsuc n) = 2 ^ 32 - suc n

-- the number of 32 bits: with a sign, or without one
abbrev pub int_of_bits : Bool → ℕ → ℤ
int_of_bits true bits = pos bits
int_of_bits false bits = if nat_lt bits (2 ^ 31) then pos bits else negsuc (2 ^ 32 - suc bits)

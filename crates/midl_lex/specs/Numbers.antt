-- Numbers: decimal digits, or 0x or 0X and hexadecimal digits.
use Rattle.std.specs.Prelude.{◌≡◌, ℕ, ◌+◌, Bool, true, false, ◌&&◌, ◌==◌, if◌then◌else◌, List, [], ◌∷◌, drop, ◌⊎◌}
use Rattle.std.specs.Str.Parse.{digits_value}
use Rattle.midl_lex.specs.Bytes.{is_digit, is_hex, is_x, all_pass, run}

-- a digit, then digits
abbrev pub IsDecimal : List ℕ → Type 0
IsDecimal bs = (b : ℕ) × (body : List ℕ) × (bs ≡ b ∷ body) × (is_digit b ≡ true) × (all_pass is_digit body ≡ true)

-- 0x or 0X, a hexadecimal digit, then such digits
abbrev pub IsHexadecimal : List ℕ → Type 0
IsHexadecimal bs = (x d : ℕ) × (body : List ℕ) × (bs ≡ 48 ∷ x ∷ d ∷ body) × (is_x x ≡ true) × (is_hex d ≡ true) × (all_pass is_hex body ≡ true)

abbrev pub IsNumber : List ℕ → Type 0
IsNumber bs = IsDecimal bs ⊎ IsHexadecimal bs

-- the front is 0x or 0X and a hexadecimal digit
abbrev pub begins_hex : List ℕ → Bool
begins_hex [] = false
begins_hex (b ∷ []) = false
begins_hex (b ∷ x ∷ []) = false
begins_hex (b ∷ x ∷ d ∷ bs) = (b == 48) && (is_x x && is_hex d)

-- the length of the number at the front, which begins with a digit
abbrev pub number_len : List ℕ → ℕ
number_len bs = if begins_hex bs then run is_hex (drop 2 bs) + 2 else run is_digit bs

-- the number that a spelling stands for: its digits, in base 16 or 10
unfoldable pub value_of : List ℕ → ℕ
value_of text = if begins_hex text then digits_value 16 (drop 2 text) else digits_value 10 text

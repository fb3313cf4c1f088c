-- Texts compared byte by byte, but for ASCII case.
use Rattle.std.proofs.Common.{◌≡◌, ◌<◌, ◌≤◌, ℕ, true, false, List, length, get_or, sym, ap, ◌∙◌, arith}
use Rattle.std.specs.Char.{to_ascii_lowercase}
use Rattle.std.specs.Str.{bytes_eq}
use Rattle.std.specs.Cmp.Lexicographic.{bytes_decides}
use Rattle.std.proofs.lemmas.Bool.{false_from_ne_true}
use Rattle.std.proofs.lemmas.List.{length-map, ext_get_or}
use Rattle.std.proofs.Math.ListN.{get_or-map}
use Rattle.wr_base.specs.Lower.{lower}

-- the byte at a place of both, in lower case, is one
abbrev pub Alike : List ℕ → List ℕ → ℕ → Type 0
Alike a b k = to_ascii_lowercase (get_or a k 0) ≡ to_ascii_lowercase (get_or b k 0)

lowered_at : (l : List ℕ) (k : ℕ) → get_or (lower l) k 0 ≡ to_ascii_lowercase (get_or l k 0)
lowered_at l k = get_or-map to_ascii_lowercase l k 0

not_same : (a b : List ℕ) → ¬ (a ≡ b) → false ≡ bytes_eq a b
not_same a b n = sym (false_from_ne_true (bytes_eq a b) (λ e. n ((bytes_decides a b).0 e)))

pub other_byte : (a b : List ℕ) (k : ℕ) → ¬ (Alike a b k) → false ≡ bytes_eq (lower a) (lower b)
other_byte a b k n = not_same (lower a) (lower b) (λ e. n (sym (lowered_at a k) ∙ ap (λ l. get_or l k 0) e ∙ lowered_at b k))

pub all_bytes : (a b : List ℕ) (n : ℕ) → length a ≡ length b → length a ≤ n → ((k : ℕ) → k < n → Alike a b k) → true ≡ bytes_eq (lower a) (lower b)
all_bytes a b n e l all =
    sym ((bytes_decides (lower a) (lower b)).1 (ext_get_or 0 (lower a) (lower b) (length-map a to_ascii_lowercase ∙ e ∙ sym (length-map b to_ascii_lowercase))
    (λ k h. lowered_at a k ∙ all k (let m = length-map a to_ascii_lowercase in omega (arith, h, l, m)) ∙ sym (lowered_at b k))))

-- Heaps that grow, and what is read in them.
use Rattle.std.proofs.Common.{◌≡◌, ℕ, zero, suc, ◌<◌, ◌≤◌, true, leb, List, [], ◌∷◌, ◌++◌, length, drop, get_or, sym, ap, ◌∙◌, arith}
use Rattle.std.specs.Prelude.{◌&&◌}
use Rattle.std.specs.Str.{IsUtf8}
use Rattle.std.proofs.lemmas.Bool.{and_parts, leb-true}
use Rattle.std.proofs.lemmas.List.{take-append-drop}
use Rattle.std.proofs.lemmas.Str.{IsUtf8-from_ascii}
use Rattle.md_heaps.specs.Heaps.{Heap, Keeps}
use Rattle.md_heaps.specs.Texts.{HasNoZero}
use Rattle.row_writer.specs.Lines.{is_plain}

-- what stands behind the old bytes
abbrev pub more : Heap → Heap → List ℕ
more old new = drop (length old.bytes) new.bytes

pub bytes_go_on : (old new : Heap) → Keeps old new → new.bytes ≡ old.bytes ++ more old new
bytes_go_on old new k = sym (take-append-drop (length old.bytes) new.bytes) ∙ ap (λ (x : List ℕ). x ++ more old new) k.bytes

-- ---- ASCII without zero

plain_head : (b : ℕ) (bytes : List ℕ) → is_plain (b ∷ bytes) ≡ true → (1 ≤ b) × (b ≤ 127) × (is_plain bytes ≡ true)
plain_head b bytes h =
    let both = and_parts (leb 1 b && leb b 127) (is_plain bytes) h in
    let ends = and_parts (leb 1 b) (leb b 127) both.0 in
    (leb-true 1 b ends.0, leb-true b 127 ends.1, both.1)

pub no_zero : (text : List ℕ) → is_plain text ≡ true → HasNoZero text
no_zero [] h k d below e = absurd (omega (arith, below))
no_zero (b ∷ bytes) h zero d below e = absurd (let p = plain_head b bytes h in omega (arith, p.0, e))
no_zero (b ∷ bytes) h (suc k) d below e = no_zero bytes (plain_head b bytes h).2 k d (omega (arith, below)) e

low_at : (text : List ℕ) → is_plain text ≡ true → (i : ℕ) → get_or text i 0 < 128
low_at [] h i = omega arith
low_at (b ∷ text) h zero = let p = plain_head b text h in omega (arith, p.1)
low_at (b ∷ text) h (suc i) = low_at text (plain_head b text h).2 i

pub plain_utf8 : (text : List ℕ) → is_plain text ≡ true → IsUtf8 text
plain_utf8 text h = IsUtf8-from_ascii text (low_at text h)

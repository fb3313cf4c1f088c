-- A compressed integer in its shortest form is read as what was written.
use Rattle.std.proofs.Common.{◌≡◌, ℕ, suc, ◌+◌, ◌-◌, ◌*◌, ◌/◌, ◌%◌, ◌^◌, ◌<◌, true, false, ltb, List, ◌++◌, Ok, refl, arith, inl, inr}
use Rattle.std.specs.Prelude.{length}
use Rattle.std.proofs.lemmas.Bool.{lt-ltb, le-ltb, ltb-true}
use Rattle.md_heaps.specs.Integers.{compressed_of, shortest}
use Rattle.winmd_lines.proofs.LineLaws.{either}

pub shortest_read : (n : ℕ) (rest : List ℕ) → n < 2 ^ 29 → compressed_of (shortest n ++ rest) ≡ Ok (n, length (shortest n))
shortest_read n rest lt =
    elim (either (ltb n 0x80)) [
      | inl e ↦
          let low : n < 0x80 = ltb-true _ _ e in
          let a : ltb (n % 256) 128 ≡ true = lt-ltb _ _ (omega (arith, low)) in
          let s : n % 256 * 1 + 0 - 0 ≡ n = omega (arith, low) in
          let l : ltb (suc (length rest)) 1 ≡ false = le-ltb _ _ (omega arith) in
          rw (e, a, l, s) refl
      | inr e ↦ elim (either (ltb n 0x4000)) [
        | inl g ↦
            let low : n < 0x4000 = ltb-true _ _ g in
            let a : ltb ((0x8000 + n) / 256 % 256) 128 ≡ false = le-ltb _ _ (omega (arith, low)) in
            let b : ltb ((0x8000 + n) / 256 % 256) 192 ≡ true = lt-ltb _ _ (omega (arith, low)) in
            let l : ltb (suc (suc (length rest))) 2 ≡ false = le-ltb _ _ (omega arith) in
            let s : (0x8000 + n) / 256 % 256 * 256 + ((0x8000 + n) % 256 * 1 + 0) - 0x8000 ≡ n = omega (arith, low) in
            rw (e, g, a, b, l, s) refl
        | inr g ↦
            let a : ltb ((0xC0000000 + n) / 256 ^ 3 % 256) 128 ≡ false = le-ltb _ _ (omega (arith, lt)) in
            let b : ltb ((0xC0000000 + n) / 256 ^ 3 % 256) 192 ≡ false = le-ltb _ _ (omega (arith, lt)) in
            let c : ltb ((0xC0000000 + n) / 256 ^ 3 % 256) 224 ≡ true = lt-ltb _ _ (omega (arith, lt)) in
            let l : ltb (suc (suc (suc (suc (length rest))))) 4 ≡ false = le-ltb _ _ (omega arith) in
            let s : (0xC0000000 + n) / 256 ^ 3 % 256 * 256 ^ 3 + ((0xC0000000 + n) / 256 ^ 2 % 256 * 256 ^ 2 + ((0xC0000000 + n) / 256 % 256 * 256 + ((0xC0000000 + n) % 256 * 1 + 0))) - 0xC0000000 ≡ n = omega (arith, lt) in
            rw (e, g, a, b, c, l, s) refl
      ]
    ]

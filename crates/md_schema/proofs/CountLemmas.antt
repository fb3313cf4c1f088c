-- The header of the tables' stream: row counts stand behind a bit for each table that has rows.
use Rattle.std.proofs.Common.{◌≡◌, ℕ, zero, suc, ◌+◌, ◌*◌, ◌/◌, ◌%◌, ◌^◌, ◌<◌, ◌≤◌, Bool, true, false, cond, ltb, eqb, List, [], ◌∷◌, ◌++◌, length, get_or, take, drop, map, refl, sym, ap, subst, ◌∙◌, arith, length-append, append_assoc, lit<, zero-add, add-zero}
use Rattle.std.specs.List.{AllByRecursion}
use Rattle.std.proofs.Math.Nat.{pow-suc}
use Rattle.std.proofs.lemmas.Bool.{lt-ltb, eq-eqb, ne_eqb}
use Rattle.std.proofs.lemmas.List.{drop_at, drop-drop}
use Rattle.std.proofs.lemmas.Nat.{shr-shr}
use Rattle.md_bytes.specs.Bytes.{le, number, number_at}
use Rattle.md_bytes.specs.Stands.{Stands}
use Rattle.md_bytes.proofs.NumberLemmas.{length-le, number-le, read_number}
use Rattle.md_bytes.proofs.StandsLemmas.{stands_before}
use Rattle.md_schema.specs.declared.sizes.Sizes.{Sizes}
use Rattle.md_schema.specs.Tables.{has_bit, bits_set, upto, heap_bits, valid_of, count_at, sizes_of, rows_from}
use Rattle.md_schema.specs.Written.{bits, row_counts, flag, table_head}

-- a list from the numbers of its places
pub upto_is : {A : Type 0} (d : A) (n : ℕ) (xs : List A) (f : ℕ → A) → ((i : ℕ) → i < length xs → f (n + i) ≡ get_or xs i d) → map f (upto n (length xs)) ≡ xs
unfolding upto
upto_is d n [] f h = refl
upto_is {A} d n (x ∷ xs) f h =
    let first : f n ≡ x = ap f (sym (add-zero n)) ∙ h 0 (omega arith) in
    let rest = upto_is d (suc n) xs f (λ i lt. ap f (omega arith) ∙ h (suc i) (omega arith)) in
    rw (first, rest) refl

-- a count behind the counts of the bits before it
abbrev pub counted : ℕ → List ℕ → ℕ → ℕ
counted valid counts i = cond (has_bit valid i) (number_at counts (4 * bits_set i valid) 4) 0

-- a bit is that of the half, one lower
next_bit : (valid i : ℕ) → valid / 2 ^ suc i ≡ valid / 2 / 2 ^ i
next_bit valid i = ap (λ (k : ℕ). valid / 2 ^ k) (omega arith) ∙ sym (shr-shr valid 1 i)

step : (valid : ℕ) (counts : List ℕ) (i : ℕ) → counted valid counts (suc i) ≡ cond (has_bit (valid / 2) i) (number_at counts (4 * (valid % 2 + bits_set i (valid / 2))) 4) 0
unfolding bits_set
step valid counts i = ap (λ (n : ℕ). cond (eqb (n % 2) 1) (number_at counts (4 * (valid % 2 + bits_set i (valid / 2))) 4) 0) (next_bit valid i)

-- the same counts, behind one more
behind : (first counts : List ℕ) (n : ℕ) → length first ≡ 4 → number_at (first ++ counts) (4 * (1 + n)) 4 ≡ number_at counts (4 * n) 4
behind first counts n h =
    let k : 4 * (1 + n) ≡ 4 + 4 * n = omega arith in
    ap (λ (m : ℕ). number (take 4 (drop m (first ++ counts)))) k ∙ ap (λ (xs : List ℕ). number (take 4 xs)) (sym (drop-drop (4 * n) 4 (first ++ counts)))
    ∙ ap (λ (xs : List ℕ). number (take 4 (drop (4 * n) xs))) (drop_at first counts 4 h)

pub counts_again : (ns rest : List ℕ) (i : ℕ) → AllByRecursion (λ n. n < 2 ^ 32) ns → i < length ns → counted (bits ns) (row_counts ns ++ rest) i ≡ get_or ns i 0
unfolding bits_set
counts_again [] rest i h lt = absurd (omega arith)
counts_again (zero ∷ ns) rest zero h lt =
    let even : eqb ((0 + 2 * bits ns) / 2 ^ 0 % 2) 1 ≡ false = ne_eqb _ _ (λ same. omega arith) in
    rw even refl
counts_again (zero ∷ ns) rest (suc i) h lt =
    let half : (0 + 2 * bits ns) / 2 ≡ bits ns = omega arith in
    let even : (0 + 2 * bits ns) % 2 ≡ 0 = omega arith in
    let zeros : 0 + bits_set i (bits ns) ≡ bits_set i (bits ns) = zero-add _ in
    step (0 + 2 * bits ns) (row_counts ns ++ rest) i ∙ rw (half, even, zeros) (counts_again ns rest i h.1 (omega arith))
counts_again (suc n ∷ ns) rest zero h lt =
    let some : ltb 0 (suc n) ≡ true = lt-ltb _ _ (omega arith) in
    let odd : eqb ((1 + 2 * bits ns) / 2 ^ 0 % 2) 1 ≡ true = eq-eqb _ _ (omega arith) in
    rw (some, odd, number-le 4 (suc n) h.0) refl
counts_again (suc n ∷ ns) rest (suc i) h lt =
    let some : ltb 0 (suc n) ≡ true = lt-ltb _ _ (omega arith) in
    let half : (1 + 2 * bits ns) / 2 ≡ bits ns = omega arith in
    let odd : (1 + 2 * bits ns) % 2 ≡ 1 = omega arith in
    let group : (le 4 (suc n) ++ row_counts ns) ++ rest ≡ le 4 (suc n) ++ (row_counts ns ++ rest) = append_assoc (le 4 (suc n)) (row_counts ns) rest in
    let on : number_at (le 4 (suc n) ++ (row_counts ns ++ rest)) (4 * (1 + bits_set i (bits ns))) 4 ≡ number_at (row_counts ns ++ rest) (4 * bits_set i (bits ns)) 4 =
    behind (le 4 (suc n)) (row_counts ns ++ rest) (bits_set i (bits ns)) (length-le 4 (suc n)) in
    let front : row_counts (suc n ∷ ns) ++ rest ≡ le 4 (suc n) ++ (row_counts ns ++ rest) = rw some group in
    let value : bits (suc n ∷ ns) ≡ 1 + 2 * bits ns = rw some refl in
    ap (λ (v : ℕ). counted v (row_counts (suc n ∷ ns) ++ rest) (suc i)) value ∙ ap (λ (xs : List ℕ). counted (1 + 2 * bits ns) xs (suc i)) front
    ∙ step (1 + 2 * bits ns) (le 4 (suc n) ++ (row_counts ns ++ rest)) i
    ∙ ap (λ (v : ℕ). cond (has_bit v i) (number_at (le 4 (suc n) ++ (row_counts ns ++ rest)) (4 * ((1 + 2 * bits ns) % 2 + bits_set i v)) 4) 0) half
    ∙ ap (λ (v : ℕ). cond (has_bit (bits ns) i) (number_at (le 4 (suc n) ++ (row_counts ns ++ rest)) (4 * (v + bits_set i (bits ns))) 4) 0) odd
    ∙ ap (λ (v : ℕ). cond (has_bit (bits ns) i) v 0) on ∙ counts_again ns rest i h.1 (omega arith)

none_set : (k : ℕ) → bits_set k 0 ≡ 0
unfolding bits_set
none_set zero = refl
none_set (suc k) = rw (none_set k) refl

-- as many bits are set as counts are there
pub bits_counted : (k : ℕ) (ns : List ℕ) → length ns ≤ k → 4 * bits_set k (bits ns) ≡ length (row_counts ns)
unfolding bits_set
bits_counted k [] h = ap (λ n. 4 * n) (none_set k)
bits_counted zero (n ∷ ns) h = absurd (omega arith)
bits_counted (suc k) (zero ∷ ns) h =
    let half : (0 + 2 * bits ns) / 2 ≡ bits ns = omega arith in
    let even : (0 + 2 * bits ns) % 2 ≡ 0 = omega arith in
    let again = bits_counted k ns (omega arith) in
    rw (even, half) (omega (arith, again))
bits_counted (suc k) (suc n ∷ ns) h =
    let some : ltb 0 (suc n) ≡ true = lt-ltb _ _ (omega arith) in
    let half : (1 + 2 * bits ns) / 2 ≡ bits ns = omega arith in
    let odd : (1 + 2 * bits ns) % 2 ≡ 1 = omega arith in
    let again = bits_counted k ns (omega arith) in
    rw (some, odd, half) (omega (arith, again, length-append (le 4 (suc n)) (row_counts ns), length-le 4 (suc n)))

bit_low : (n : ℕ) → flag (ltb 0 n) 1 ≤ 1
bit_low zero = omega arith
bit_low (suc n) = let some : ltb 0 (suc n) ≡ true = lt-ltb _ _ (omega arith) in rw some (omega arith)

pub bits_low : (ns : List ℕ) → bits ns < 2 ^ length ns
bits_low [] = lit< tt
bits_low (n ∷ ns) = let low = bit_low n in let rest = bits_low ns in omega (arith, low, rest, pow-suc 2 (length ns))

-- ---- the header that is written

pub length-table_head : (sizes : Sizes) → length (table_head sizes) ≡ 24
unfolding table_head
length-table_head sizes = refl

bits_in : (sizes : Sizes) → Stands (table_head sizes) 8 (le 8 (bits sizes.rows))
unfolding table_head
bits_in sizes = record { front = take 8 (table_head sizes); back = drop 16 (table_head sizes); split = refl; at = refl }

flags_again : (a b c : Bool) → let n : ℕ = (flag a 1 + flag b 2 + flag c 4) + 256 * 0 in (has_bit n 0 ≡ a) × (has_bit n 1 ≡ b) × (has_bit n 2 ≡ c)
flags_again false false false = (refl, refl, refl)
flags_again false false true = (refl, refl, refl)
flags_again false true false = (refl, refl, refl)
flags_again false true true = (refl, refl, refl)
flags_again true false false = (refl, refl, refl)
flags_again true false true = (refl, refl, refl)
flags_again true true false = (refl, refl, refl)
flags_again true true true = (refl, refl, refl)

-- The byte is below 256, so that it is the sum itself.
flags_byte : (sizes : Sizes) (rest : List ℕ) → heap_bits (table_head sizes ++ rest) ≡ (flag sizes.long_texts 1 + flag sizes.long_guids 2 + flag sizes.long_blobs 4) + 256 * 0
unfolding table_head
flags_byte sizes rest = refl

made : Bool → Bool → Bool → List ℕ → Sizes
made a b c ns = record { long_texts = a; long_guids = b; long_blobs = c; rows = ns }

-- what is read from a stream that begins as it is written
pub record Begun (sizes : Sizes) (bytes rest : List ℕ) : Type 0 where
  pub sizes_are : sizes_of bytes ≡ sizes
  pub from_is : rows_from bytes ≡ 24 + length (row_counts sizes.rows)
  pub dropped : drop (rows_from bytes) bytes ≡ rest

pub begun : (sizes : Sizes) (rest : List ℕ) → length sizes.rows ≡ 45 → AllByRecursion (λ n. n < 2 ^ 32) sizes.rows → Begun sizes (table_head sizes ++ (row_counts sizes.rows ++ rest)) rest
unfolding made
begun sizes rest many small =
    let ns : List ℕ = sizes.rows in
    let tail : List ℕ = row_counts ns ++ rest in
    let bytes : List ℕ = table_head sizes ++ tail in
    let f : heap_bits bytes ≡ (flag sizes.long_texts 1 + flag sizes.long_guids 2 + flag sizes.long_blobs 4) + 256 * 0 = flags_byte sizes tail in
    let fl = flags_again sizes.long_texts sizes.long_guids sizes.long_blobs in
    let low : bits ns < 2 ^ 45 = subst (λ (k : ℕ). bits ns < 2 ^ k) many (bits_low ns) in
    let valid : valid_of bytes ≡ bits ns = read_number bytes 8 8 (bits ns) (omega (arith, low)) (stands_before (table_head sizes) tail (le 8 (bits ns)) 8 (bits_in sizes)) in
    let tail_is : drop 24 bytes ≡ tail = drop_at (table_head sizes) tail 24 (length-table_head sizes) in
    let at : (n : ℕ) → number_at bytes (24 + n) 4 ≡ number_at tail n 4 = λ n. ap (λ (xs : List ℕ). number (take 4 xs)) (sym (drop-drop n 24 bytes) ∙ ap (drop n) tail_is) in
    let count : (i : ℕ) → count_at bytes i ≡ counted (bits ns) tail i = λ i.
    ap (λ (v : ℕ). cond (has_bit v i) (number_at bytes (24 + 4 * bits_set i v) 4) 0) valid ∙ ap (λ (n : ℕ). cond (has_bit (bits ns) i) n 0) (at (4 * bits_set i (bits ns))) in
    let all : map (count_at bytes) (upto 0 (length ns)) ≡ ns = upto_is 0 0 ns (count_at bytes) (λ i lt. ap (count_at bytes) (zero-add i) ∙ count i ∙ counts_again ns rest i small lt) in
    let all45 : map (count_at bytes) (upto 0 45) ≡ ns = subst (λ (k : ℕ). map (count_at bytes) (upto 0 k) ≡ ns) many all in
    let a0 = ap (λ (n : ℕ). has_bit n 0) f ∙ fl.0 in
    let b0 = ap (λ (n : ℕ). has_bit n 1) f ∙ fl.1 in
    let c0 = ap (λ (n : ℕ). has_bit n 2) f ∙ fl.2 in
    let from : rows_from bytes ≡ 24 + length (row_counts ns) = ap (λ (v : ℕ). 24 + 4 * bits_set 64 v) valid ∙ ap (λ (n : ℕ). 24 + n) (bits_counted 64 ns (omega arith)) in
    let whole : bytes ≡ (table_head sizes ++ row_counts ns) ++ rest = sym (append_assoc (table_head sizes) (row_counts ns) rest) in
    record {
      sizes_are = ap (λ (a : Bool). made a (has_bit (heap_bits bytes) 1) (has_bit (heap_bits bytes) 2) (map (count_at bytes) (upto 0 45))) a0
          ∙ ap (λ (b : Bool). made sizes.long_texts b (has_bit (heap_bits bytes) 2) (map (count_at bytes) (upto 0 45))) b0
          ∙ ap (λ (c : Bool). made sizes.long_texts sizes.long_guids c (map (count_at bytes) (upto 0 45))) c0
          ∙ ap (λ (xs : List ℕ). made sizes.long_texts sizes.long_guids sizes.long_blobs xs) all45;
      from_is = from;
      dropped = ap (λ (n : ℕ). drop n bytes) from ∙ ap (drop (24 + length (row_counts ns))) whole ∙ drop_at (table_head sizes ++ row_counts ns) rest (24 + length (row_counts ns)) (omega (arith, length-append (table_head sizes) (row_counts ns), length-table_head sizes));
    }

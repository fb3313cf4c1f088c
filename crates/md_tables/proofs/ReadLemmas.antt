-- Rows that are read, one behind the other, are those at the offsets that the sums give.
use Rattle.std.proofs.Common.{◌≡◌, ℕ, zero, suc, ◌+◌, ◌-◌, ◌*◌, ◌<◌, ◌≤◌, List, [], ◌∷◌, ◌++◌, length, get_or, take, map, refl, sym, ap, subst, ◌∙◌, append_assoc, arith, add-zero}
use Rattle.std.proofs.lemmas.List.{length-map}
use Rattle.md_bytes.specs.Bytes.{number_at, total}
use Rattle.md_schema.specs.declared.table.Table.{Table}
use Rattle.md_schema.specs.declared.table.Table.TheVariants as tables
use Rattle.md_schema.specs.declared.sizes.Sizes.{Sizes}
use Rattle.md_schema.specs.Schema.{all_tables, columns_of, place_of}
use Rattle.md_schema.specs.Tables.{upto, sizes_of, rows_from, widths_of, row_width, table_size, table_start, raw}
use Rattle.md_schema.specs.Widths.{count_of, width_of}
use Rattle.md_schema.proofs.TablesLemmas.{place_is, place_low}
use Rattle.md_tables.specs.Reading.{numbers_at, rows_at, tables_at}

-- ---- one more row

pub rows_on : (bytes ws : List ℕ) (front whole : List (List ℕ)) (count at i : ℕ) → i < count
    → front ++ rows_at bytes at ws (count - i) ≡ whole → (front ++ numbers_at bytes at ws ∷ []) ++ rows_at bytes (at + total ws) ws (count - (i + 1)) ≡ whole
rows_on bytes ws front whole count at i lt h =
    let k : count - i ≡ suc (count - (i + 1)) = omega arith in
    append_assoc front (numbers_at bytes at ws ∷ []) (rows_at bytes (at + total ws) ws (count - (i + 1))) ∙ ap (λ (n : ℕ). front ++ rows_at bytes at ws n) (sym k) ∙ h

pub rows_fit : (count at width end i : ℕ) → i < count → at + (count - i) * width ≡ end → (at + width ≤ end) × (at + width + (count - (i + 1)) * width ≡ end)
rows_fit count at width end i lt h =
    let k : count - i ≡ suc (count - (i + 1)) = omega arith in
    let e : (count - i) * width ≡ suc (count - (i + 1)) * width = ap (λ (n : ℕ). n * width) k in
    (omega (arith, e, h), omega (arith, e, h))

-- ---- what they are, by offsets

map_next : {A : Type 0} (f g : ℕ → A) (n k : ℕ) → ((i : ℕ) → f (suc i) ≡ g i) → map f (upto (suc n) k) ≡ map g (upto n k)
unfolding upto
map_next f g n zero h = refl
map_next f g n (suc k) h = rw (h n, map_next f g (suc n) k h) refl

numbers_are : (bytes : List ℕ) (at : ℕ) (ws : List ℕ) → numbers_at bytes at ws ≡ map (λ c. number_at bytes (at + total (take c ws)) (get_or ws c 0)) (upto 0 (length ws))
unfolding upto
numbers_are bytes at [] = refl
numbers_are bytes at (w ∷ ws) =
    let first : number_at bytes at w ≡ number_at bytes (at + 0) w = ap (λ (n : ℕ). number_at bytes n w) (sym (add-zero at)) in
    let next : map (λ c. number_at bytes (at + total (take c (w ∷ ws))) (get_or (w ∷ ws) c 0)) (upto 1 (length ws)) ≡ map (λ c. number_at bytes (at + w + total (take c ws)) (get_or ws c 0)) (upto 0 (length ws)) =
    map_next (λ c. number_at bytes (at + total (take c (w ∷ ws))) (get_or (w ∷ ws) c 0)) (λ c. number_at bytes (at + w + total (take c ws)) (get_or ws c 0)) 0 (length ws)
    (λ i. ap (λ (n : ℕ). number_at bytes n (get_or ws i 0)) (omega arith)) in
    ap (λ (n : ℕ). n ∷ numbers_at bytes (at + w) ws) first
    ∙ ap (λ (ns : List ℕ). number_at bytes (at + 0) w ∷ ns) (numbers_are bytes (at + w) ws ∙ sym next)

rows_are : (bytes : List ℕ) (at : ℕ) (ws : List ℕ) (count : ℕ) → rows_at bytes at ws count ≡ map (λ r. numbers_at bytes (at + r * total ws) ws) (upto 0 count)
unfolding upto
rows_are bytes at ws zero = refl
rows_are bytes at ws (suc n) =
    let first : numbers_at bytes at ws ≡ numbers_at bytes (at + 0 * total ws) ws = ap (λ (k : ℕ). numbers_at bytes k ws) (omega arith) in
    let next : map (λ r. numbers_at bytes (at + r * total ws) ws) (upto 1 n) ≡ map (λ r. numbers_at bytes (at + total ws + r * total ws) ws) (upto 0 n) =
    map_next (λ r. numbers_at bytes (at + r * total ws) ws) (λ r. numbers_at bytes (at + total ws + r * total ws) ws) 0 n (λ i. ap (λ (k : ℕ). numbers_at bytes k ws) (omega arith)) in
    ap (λ (row : List ℕ). row ∷ rows_at bytes (at + total ws) ws n) first
    ∙ ap (λ (rows : List (List ℕ)). numbers_at bytes (at + 0 * total ws) ws ∷ rows) (rows_are bytes (at + total ws) ws n ∙ sym next)

-- the i-th of several tables
tables_are : (bytes : List ℕ) (sizes : Sizes) (at : ℕ) (ts : List Table) (i : ℕ) (d : Table) → i < length ts
    → get_or (tables_at bytes sizes at ts) i [] ≡ rows_at bytes (at + total (map (table_size sizes) (take i ts))) (widths_of sizes (get_or ts i d)) (count_of sizes (get_or ts i d))
tables_are bytes sizes at [] i d lt = absurd (omega arith)
tables_are bytes sizes at (t ∷ ts) zero d lt = ap (λ (k : ℕ). rows_at bytes k (widths_of sizes t) (count_of sizes t)) (sym (add-zero at))
tables_are bytes sizes at (t ∷ ts) (suc i) d lt =
    tables_are bytes sizes (at + table_size sizes t) ts i d (omega arith)
    ∙ ap (λ (k : ℕ). rows_at bytes k (widths_of sizes (get_or ts i d)) (count_of sizes (get_or ts i d))) (omega arith)

map_same : {A B : Type 0} (f g : A → B) (xs : List A) → ((x : A) → f x ≡ g x) → map f xs ≡ map g xs
map_same f g [] h = refl
map_same f g (x ∷ xs) h = rw (h x, map_same f g xs h) refl

raw_by : (bytes : List ℕ) (sizes : Sizes) (from : ℕ) (t : Table) → get_or (tables_at bytes sizes from all_tables) (place_of t) []
    ≡ map (λ r. map (λ c. number_at bytes (from + table_start sizes t + r * row_width sizes t + total (take c (widths_of sizes t))) (get_or (widths_of sizes t) c 0)) (upto 0 (length (columns_of t)))) (upto 0 (count_of sizes t))
raw_by bytes sizes from t =
    let ws : List ℕ = widths_of sizes t in
    let at : ℕ = from + table_start sizes t in
    let there = tables_are bytes sizes from all_tables (place_of t) tables.Module (place_low t) in
    let here : get_or (tables_at bytes sizes from all_tables) (place_of t) [] ≡ rows_at bytes at ws (count_of sizes t) =
    subst (λ (x : Table). get_or (tables_at bytes sizes from all_tables) (place_of t) [] ≡ rows_at bytes at (widths_of sizes x) (count_of sizes x)) (place_is t) there in
    let width : length ws ≡ length (columns_of t) = length-map (columns_of t) (width_of sizes) in
    let row : (r : ℕ) → numbers_at bytes (at + r * total ws) ws ≡ map (λ c. number_at bytes (at + r * total ws + total (take c ws)) (get_or ws c 0)) (upto 0 (length (columns_of t))) =
    λ r. numbers_are bytes (at + r * total ws) ws ∙ ap (λ (n : ℕ). map (λ c. number_at bytes (at + r * total ws + total (take c ws)) (get_or ws c 0)) (upto 0 n)) width in
    here ∙ rows_are bytes at ws (count_of sizes t)
    ∙ map_same (λ r. numbers_at bytes (at + r * total ws) ws) (λ r. map (λ c. number_at bytes (at + r * total ws + total (take c ws)) (get_or ws c 0)) (upto 0 (length (columns_of t)))) (upto 0 (count_of sizes t)) row

-- The rows of a table that are read behind those before it are all rows at their offsets.
pub raw_read : (bytes : List ℕ) (t : Table) → get_or (tables_at bytes (sizes_of bytes) (rows_from bytes) all_tables) (place_of t) [] ≡ raw bytes t
raw_read bytes t = raw_by bytes (sizes_of bytes) (rows_from bytes) t

-- How many types begin their methods at a number or before it, number by number.
use Rattle.std.proofs.Common.{◌≡◌, ◌+◌, ◌≤◌, ◌<◌, ◌==◌, ℕ, zero, suc, Bool, true, false, cond, List, [], ◌∷◌, ◌++◌, length, map, get_or, nat_le, Vec, Ok, refl, sym, ap, ◌∙◌, arith}
use Rattle.std.specs.List.{filter, AllByRecursion}
use Rattle.std.specs.declared.alloc.Global.{Global}
use Rattle.std.proofs.Math.Seq.{get_or-append_seam}
use Rattle.std.proofs.lemmas.List.{get_or_append_left, length-map}
use Rattle.md_schema.specs.declared.table.Table.TheVariants as tables
use Rattle.md_schema.specs.Schema.{columns_of}
use Rattle.md_schema.specs.Tables.{cell as raw_cell, sizes_of, upto}
use Rattle.md_schema.specs.Widths.{count_of}
use Rattle.winmd_cells.specs.Indexed.{numbers_in}
use Rattle.winmd_rows.specs.Values.{Heaps, To, followed_row, followed_rows}
use Rattle.winmd_lines.specs.Cells.{Row, Numbered, as_row, cell, leads, numbered, passes}
use Rattle.winmd_sets.specs.Attributes.{owner_of}
use Rattle.winmd_cells.specs.declared.image.Image.{Image}
use Rattle.winmd_cells.specs.Indexed.{IsIndex}
use Rattle.winmd_cells.specs.Seen.{heaps_in, offsets_in, seen, tables_in}
use Rattle.winmd_index.specs.Names.{starting}

-- the row leads to a method
abbrev Leads : Row → Type 0
Leads row = (r : ℕ) × (cell row 5 ≡ Ok (To tables.MethodDef r))

abbrev at_number : ℕ → Row → Bool
at_number n row = passes (leads tables.MethodDef n) (cell row 5)

abbrev up_to : ℕ → Row → Bool
up_to n row = passes (λ value. nat_le (as_row value) n) (cell row 5)

counted : (p : Row → Bool) (x : Row) (rows : List Row) (b : Bool) → p x ≡ b → length (filter p (x ∷ rows)) ≡ cond b 1 0 + length (filter p rows)
counted p x rows true e = rw e (omega arith)
counted p x rows false e = rw e (omega arith)

one : (r n : ℕ) → cond (nat_le r (suc n)) 1 0 ≡ cond (nat_le r n) 1 0 + cond (suc n == r) 1 0
one r n = grind arith

first : (r : ℕ) → cond {A = ℕ} (nat_le r 0) 1 0 ≡ cond {A = ℕ} (0 == r) 1 0
first r = grind arith

step : (n : ℕ) (rows : List Row) → AllByRecursion Leads rows → length (filter (up_to (suc n)) rows) ≡ length (filter (up_to n) rows) + length (filter (at_number (suc n)) rows)
step n [] h = refl
step n (x ∷ rows) h =
    let r = h.0.0 in
    let a = counted (up_to (suc n)) x rows (nat_le r (suc n)) (rw h.0.1 refl) in
    let b = counted (up_to n) x rows (nat_le r n) (rw h.0.1 refl) in
    let c = counted (at_number (suc n)) x rows (suc n == r) (rw h.0.1 refl) in
    let d = one r n in
    let e = step n rows h.1 in
    omega (arith, a, b, c, d, e)

start : (rows : List Row) → AllByRecursion Leads rows → length (filter (up_to 0) rows) ≡ length (filter (at_number 0) rows)
start [] h = refl
start (x ∷ rows) h =
    let r = h.0.0 in
    let a = counted (up_to 0) x rows (nat_le r 0) (rw h.0.1 refl) in
    let c = counted (at_number 0) x rows (0 == r) (rw h.0.1 refl) in
    let d = first r in
    let e = start rows h.1 in
    omega (arith, a, c, d, e)

few : (p : Row → Bool) (rows : List Row) → length (filter p rows) ≤ length rows
few p [] = omega arith
few p (x ∷ rows) = let h = few p rows in let c = counted p x rows (p x) refl in let d : cond (p x) 1 0 ≤ 1 = grind arith in omega (arith, h, c, d)

numbered_too : (p : Row → Bool) (k : ℕ) (rows : List Row) → length (filter (λ (row : Numbered). p row.1) (numbered k rows)) ≡ length (filter p rows)
numbered_too p k [] = refl
numbered_too p k (x ∷ rows) = elim (p x) as (λ b. length (cond b ((k, x) ∷ filter (λ (row : Numbered). p row.1) (numbered (suc k) rows)) (filter (λ (row : Numbered). p row.1) (numbered (suc k) rows))) ≡ length (cond b (x ∷ filter p rows) (filter p rows))) [
  | true ↦ ap suc (numbered_too p (suc k) rows)
  | false ↦ numbered_too p (suc k) rows
]

lead : (heaps : Heaps) (offset f : ℕ → ℕ) → Leads (followed_row heaps offset 0 (columns_of tables.TypeDef) (map f (upto 0 (length (columns_of tables.TypeDef)))))
unfolding upto
lead heaps offset f = (f 5, refl)

all_lead : (heaps : Heaps) (offset : ℕ → ℕ → ℕ) (f : ℕ → ℕ → ℕ) (r from count : ℕ)
    → AllByRecursion Leads (followed_rows heaps offset r (columns_of tables.TypeDef) (map (λ row. map (f row) (upto 0 (length (columns_of tables.TypeDef)))) (upto from count)))
unfolding upto
all_lead heaps offset f r from zero = tt
all_lead heaps offset f r from (suc count) = (lead heaps (offset r) (f from), all_lead heaps offset f (suc r) (suc from) count)

led : (image : Image) → AllByRecursion Leads ((tables_in image).rows tables.TypeDef)
led image = all_lead (heaps_in image) (offsets_in image tables.TypeDef) (raw_cell image.stream.now tables.TypeDef) 0 0 (count_of (sizes_of image.stream.now) tables.TypeDef)

pub owner_first : (image : Image) → owner_of (tables_in image) 0 ≡ length (starting image 0)
owner_first image = start ((tables_in image).rows tables.TypeDef) (led image) ∙ sym (numbered_too (at_number 0) 1 ((tables_in image).rows tables.TypeDef))

pub owner_next : (image : Image) (n : ℕ) → owner_of (tables_in image) (suc n) ≡ owner_of (tables_in image) n + length (starting image (suc n))
owner_next image n =
    step n ((tables_in image).rows tables.TypeDef) (led image) ∙ ap (λ k. owner_of (tables_in image) n + k) (sym (numbered_too (at_number (suc n)) 1 ((tables_in image).rows tables.TypeDef)))

pub owner_after : (image : Image) (n : ℕ) → owner_of (tables_in image) (n + 1) ≡ owner_of (tables_in image) n + length (starting image (n + 1))
owner_after image n = let e : n + 1 ≡ suc n = omega arith in rw e (owner_next image n)

pub owner_few : (image : Image) (n : ℕ) → owner_of (tables_in image) n ≤ length ((tables_in image).rows tables.TypeDef)
owner_few image n = few (up_to n) ((tables_in image).rows tables.TypeDef)

pub starting_few : (image : Image) (n : ℕ) → length (starting image n) ≤ length ((tables_in image).rows tables.TypeDef)
starting_few image n =
    let a = few (at_number n) ((tables_in image).rows tables.TypeDef) in
    let b = numbered_too (at_number n) 1 ((tables_in image).rows tables.TypeDef) in
    omega (arith, a, b)

pub list_length : (image : Image) (lists : List (Vec ℕ Global)) (n : ℕ) → IsIndex image tables.TypeDef 5 tables.MethodDef lists → n ≤ length ((tables_in image).rows tables.MethodDef)
    → length (get_or (numbers_in lists) n []) ≡ length (starting image n)
list_length image lists n index within =
    sym (length-map (get_or (numbers_in lists) n []) (seen image tables.TypeDef)) ∙ ap length (index n)
    ∙ (let e : nat_le n (length ((tables_in image).rows tables.MethodDef)) ≡ true = grind arith in rw e refl)

-- the first number
pub begun : (image : Image) (xs new : List ℕ) (owner : ℕ) → xs ≡ [] → new ≡ xs ++ owner ∷ [] → owner ≡ owner_of (tables_in image) 0 → (length new ≡ 1) × ((k : ℕ) → k ≤ 0 → get_or new k 0 ≡ owner_of (tables_in image) k)
begun image xs new owner none e is =
    let whole : new ≡ owner ∷ [] = e ∙ ap (λ ys. ys ++ owner ∷ []) none in
    (ap length whole, λ k within. (let first_one : k ≡ 0 = omega (arith, within) in ap (λ ys. get_or ys k 0) whole ∙ rw first_one is))

-- one number more
pub pushed : (image : Image) (xs new : List ℕ) (n owner : ℕ) → length xs ≡ suc n → new ≡ xs ++ owner ∷ [] → owner ≡ owner_of (tables_in image) (n + 1) → ((k : ℕ) → k ≤ n → get_or xs k 0 ≡ owner_of (tables_in image) k)
    → (k : ℕ) → k ≤ n + 1 → get_or new k 0 ≡ owner_of (tables_in image) k
pushed image xs new n owner long e is so_far k within =
    elim (nat_le k n) as (λ b. nat_le k n ≡ b → get_or new k 0 ≡ owner_of (tables_in image) k) [
      | true ↦ λ t. (let low : k ≤ n = grind arith in let inside : k < length xs = omega (arith, long, low) in ap (λ ys. get_or ys k 0) e ∙ get_or_append_left xs (owner ∷ []) 0 k inside ∙ so_far k low)
      | false ↦ λ f. (let high : k ≡ n + 1 = grind arith in let at_end : k ≡ length xs = omega (arith, long, high) in ap (λ ys. get_or ys k 0) e ∙ rw at_end (get_or-append_seam xs owner [] 0) ∙ is ∙ ap (owner_of (tables_in image)) (sym high))
    ] refl

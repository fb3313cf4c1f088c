-- What the tests of a header show.
use Rattle.std.proofs.Common.{◌≡◌, ℕ, ◌+◌, ◌-◌, ◌<◌, ◌≤◌, Bool, true, false, cond, ltb, List, length, map, Some, None, sym, ap, subst, ◌∙◌, arith}
use Rattle.std.proofs.lemmas.Bool.{lt-ltb, le-ltb}
use Rattle.md_bytes.specs.Bytes.{total}
use Rattle.md_schema.specs.declared.faults.ImageKind.TheVariants as kinds
use Rattle.md_schema.specs.declared.sizes.Sizes.{Sizes}
use Rattle.md_schema.specs.Schema.{all_tables}
use Rattle.md_schema.specs.Tables.{valid_of, sizes_of, rows_from, rows_end, table_size}
use Rattle.md_tables.specs.Faults.{has_unknown, header_fault}
use Rattle.md_schema.specs.Faults.{fault_at}

long_header : (bytes : List ℕ) → 24 ≤ length bytes → header_fault bytes ≡ cond (has_unknown (valid_of bytes)) (Some (fault_at kinds.UnknownTable 8)) (cond (ltb (length bytes) (rows_end bytes)) (Some (fault_at kinds.ShortTable (length bytes))) None)
long_header bytes h = let t : ltb (length bytes) 24 ≡ false = le-ltb _ _ h in
    ap (λ (b : Bool). cond b (Some (fault_at kinds.ShortTable (length bytes))) (cond (has_unknown (valid_of bytes)) (Some (fault_at kinds.UnknownTable 8)) (cond (ltb (length bytes) (rows_end bytes)) (Some (fault_at kinds.ShortTable (length bytes))) None))) t

known_header : (bytes : List ℕ) → 24 ≤ length bytes → has_unknown (valid_of bytes) ≡ false → header_fault bytes ≡ cond (ltb (length bytes) (rows_end bytes)) (Some (fault_at kinds.ShortTable (length bytes))) None
known_header bytes h u = long_header bytes h ∙ ap (λ (b : Bool). cond b (Some (fault_at kinds.UnknownTable 8)) (cond (ltb (length bytes) (rows_end bytes)) (Some (fault_at kinds.ShortTable (length bytes))) None)) u

pub cut_rows : (bytes : List ℕ) → 24 ≤ length bytes → has_unknown (valid_of bytes) ≡ false → length bytes < rows_end bytes → header_fault bytes ≡ Some (fault_at kinds.ShortTable (length bytes))
cut_rows bytes h u cut = let t : ltb (length bytes) (rows_end bytes) ≡ true = lt-ltb _ _ cut in
    known_header bytes h u ∙ ap (λ (b : Bool). cond b (Some (fault_at kinds.ShortTable (length bytes))) None) t

pub whole_rows : (bytes : List ℕ) → 24 ≤ length bytes → has_unknown (valid_of bytes) ≡ false → rows_end bytes ≤ length bytes → header_fault bytes ≡ None
whole_rows bytes h u fits = let t : ltb (length bytes) (rows_end bytes) ≡ false = le-ltb _ _ fits in
    known_header bytes h u ∙ ap (λ (b : Bool). cond b (Some (fault_at kinds.ShortTable (length bytes))) None) t

-- where the rows end, by the sizes that were read
pub end_is : (bytes : List ℕ) (sizes : Sizes) (size : ℕ) → sizes ≡ sizes_of bytes → size ≡ total (map (table_size sizes) all_tables) → rows_end bytes ≡ rows_from bytes + size
end_is bytes sizes size s e = ap (λ (n : ℕ). rows_from bytes + n) (ap (λ (x : Sizes). total (map (table_size x) all_tables)) (sym s) ∙ sym e)

pub cut_by : (bytes : List ℕ) (sizes : Sizes) (from size : ℕ) → 24 ≤ length bytes → has_unknown (valid_of bytes) ≡ false → sizes ≡ sizes_of bytes → from ≡ rows_from bytes
    → size ≡ total (map (table_size sizes) all_tables) → from ≤ length bytes → length bytes - from < size → header_fault bytes ≡ Some (fault_at kinds.ShortTable (length bytes))
cut_by bytes sizes from size long known same begin e le lt =
    let past : length bytes < from + size = omega arith in
    cut_rows bytes long known (subst (λ (n : ℕ). length bytes < n) (ap (λ (k : ℕ). k + size) begin ∙ sym (end_is bytes sizes size same e)) past)

pub whole_by : (bytes : List ℕ) (sizes : Sizes) (from size : ℕ) → 24 ≤ length bytes → has_unknown (valid_of bytes) ≡ false → sizes ≡ sizes_of bytes → from ≡ rows_from bytes
    → size ≡ total (map (table_size sizes) all_tables) → from ≤ length bytes → size ≤ length bytes - from → header_fault bytes ≡ None
whole_by bytes sizes from size long known same begin e le fits =
    let within : from + size ≤ length bytes = omega arith in
    whole_rows bytes long known (subst (λ (n : ℕ). n ≤ length bytes) (ap (λ (k : ℕ). k + size) begin ∙ sym (end_is bytes sizes size same e)) within)

-- What is written as rows stands where the sums of counts and widths say, and is read there.
use Rattle.std.proofs.Common.{◌≡◌, ℕ, zero, suc, ◌+◌, ◌*◌, ◌^◌, ◌<◌, ◌≤◌, List, [], ◌∷◌, ◌++◌, length, get_or, take, drop, map, refl, sym, ap, subst, ◌∙◌, append_assoc, arith, length-append, lit<, zero-add}
use Rattle.std.specs.List.{flat_map, AllByRecursion}
use Rattle.std.proofs.lemmas.List.{length-map, drop-drop}
use Rattle.std.proofs.lemmas.List.Concat.{flat_map-cons}
use Rattle.md_bytes.specs.Bytes.{le, number, number_at, total}
use Rattle.md_bytes.specs.Stands.{Stands}
use Rattle.md_bytes.proofs.NumberLemmas.{length-le, read_number}
use Rattle.md_bytes.proofs.StandsLemmas.{stands_first, stands_behind, stands_before, stands_in, stands_piece}
use Rattle.md_schema.specs.declared.table.Table.{Table}
use Rattle.md_schema.specs.declared.table.Table.TheVariants as tables
use Rattle.md_schema.specs.declared.sizes.Sizes.{Sizes}
use Rattle.md_schema.specs.Schema.{all_tables, columns_of, place_of}
use Rattle.md_schema.specs.Tables.{upto, sizes_of, rows_from, widths_of, row_width, table_size, table_start, rows_end, cell, raw}
use Rattle.md_schema.specs.Widths.{width_of, count_of}
use Rattle.md_schema.specs.Written.{row_counts, table_head, row_bytes, rows_bytes, table_bytes, RowFits, Fit}
use Rattle.md_schema.proofs.CountLemmas.{upto_is, Begun, begun, length-table_head}

-- ---- one row

pub length-row_bytes : (ws cells : List ℕ) → RowFits ws cells → length (row_bytes ws cells) ≡ total ws
length-row_bytes [] cells h = refl
length-row_bytes (w ∷ ws) [] h = absurd h
length-row_bytes (w ∷ ws) (n ∷ ns) h = length-append (le w n) (row_bytes ws ns) ∙ ap (λ k. k + length (row_bytes ws ns)) (length-le w n) ∙ ap (λ k. w + k) (length-row_bytes ws ns h.1)

stands_cell : (ws cells : List ℕ) (c : ℕ) → c < length ws → RowFits ws cells → Stands (row_bytes ws cells) (total (take c ws)) (le (get_or ws c 0) (get_or cells c 0))
stands_cell [] cells c lt h = absurd (omega arith)
stands_cell (w ∷ ws) [] c lt h = absurd h
stands_cell (w ∷ ws) (n ∷ ns) zero lt h = stands_first (le w n) (row_bytes ws ns)
stands_cell (w ∷ ws) (n ∷ ns) (suc c) lt h = subst (λ (k : ℕ). Stands (le w n ++ row_bytes ws ns) (k + total (take c ws)) (le (get_or ws c 0) (get_or ns c 0))) (length-le w n) (stands_behind (le w n) (row_bytes ws ns) (le (get_or ws c 0) (get_or ns c 0)) (total (take c ws)) (stands_cell ws ns c (omega arith) h.1))

cell_fits : (ws cells : List ℕ) (c : ℕ) → c < length ws → RowFits ws cells → get_or cells c 0 < 256 ^ get_or ws c 0
cell_fits [] cells c lt h = absurd (omega arith)
cell_fits (w ∷ ws) [] c lt h = absurd h
cell_fits (w ∷ ws) (n ∷ ns) zero lt h = h.0
cell_fits (w ∷ ws) (n ∷ ns) (suc c) lt h = cell_fits ws ns c (omega arith) h.1

pub row_length : (ws cells : List ℕ) → RowFits ws cells → length cells ≡ length ws
row_length [] cells h = ap length h
row_length (w ∷ ws) [] h = absurd h
row_length (w ∷ ws) (n ∷ ns) h = ap suc (row_length ws ns h.1)

-- ---- the rows of a table

rows_length : (ws : List ℕ) (rows : List (List ℕ)) (i : ℕ) → i ≤ length rows → AllByRecursion (RowFits ws) rows → total (map (λ row. length (row_bytes ws row)) (take i rows)) ≡ i * total ws
rows_length ws rows zero le h = sym (omega arith)
rows_length ws [] (suc i) le h = absurd (omega arith)
rows_length ws (row ∷ rows) (suc i) le h = ap (λ k. k + total (map (λ row. length (row_bytes ws row)) (take i rows))) (length-row_bytes ws row h.0) ∙ ap (λ k. total ws + k) (rows_length ws rows i (omega arith) h.1) ∙ omega arith

pub row_fits : (ws : List ℕ) (rows : List (List ℕ)) (i : ℕ) → i < length rows → AllByRecursion (RowFits ws) rows → RowFits ws (get_or rows i [])
row_fits ws [] i lt h = absurd (omega arith)
row_fits ws (row ∷ rows) zero lt h = h.0
row_fits ws (row ∷ rows) (suc i) lt h = row_fits ws rows i (omega arith) h.1

length-rows : (ws : List ℕ) (rows : List (List ℕ)) → AllByRecursion (RowFits ws) rows → length (flat_map (row_bytes ws) rows) ≡ length rows * total ws
length-rows ws [] h = sym (omega arith)
length-rows ws (row ∷ rows) h = ap length (flat_map-cons (row_bytes ws) row rows) ∙ length-append (row_bytes ws row) (flat_map (row_bytes ws) rows) ∙ ap (λ k. k + length (flat_map (row_bytes ws) rows)) (length-row_bytes ws row h.0) ∙ ap (λ k. total ws + k) (length-rows ws rows h.1) ∙ omega arith

-- ---- all tables

abbrev Rows : Type 0
Rows = Table → List (List ℕ)

size_is : (sizes : Sizes) (rows : Rows) → Fit sizes rows → (t : Table) → length (rows_bytes sizes rows t) ≡ table_size sizes t
size_is sizes rows fit t = length-rows (widths_of sizes t) (rows t) (fit.fits t) ∙ ap (λ n. n * row_width sizes t) (sym (fit.counts t))

sizes_before : (sizes : Sizes) (rows : Rows) → Fit sizes rows → (ts : List Table) → total (map (λ t. length (rows_bytes sizes rows t)) ts) ≡ total (map (table_size sizes) ts)
sizes_before sizes rows fit [] = refl
sizes_before sizes rows fit (t ∷ ts) = rw (size_is sizes rows fit t, sizes_before sizes rows fit ts) refl

all_length : (sizes : Sizes) (rows : Rows) → Fit sizes rows → (ts : List Table) → length (flat_map (rows_bytes sizes rows) ts) ≡ total (map (table_size sizes) ts)
all_length sizes rows fit [] = refl
all_length sizes rows fit (t ∷ ts) =
    let one = size_is sizes rows fit t in
    let others = all_length sizes rows fit ts in
    omega (arith, one, others, ap length (flat_map-cons (rows_bytes sizes rows) t ts), length-append (rows_bytes sizes rows t) (flat_map (rows_bytes sizes rows) ts))

pub place_is : (t : Table) → get_or all_tables (place_of t) tables.Module ≡ t
place_is tables.Module = refl
place_is tables.TypeRef = refl
place_is tables.TypeDef = refl
place_is tables.Field = refl
place_is tables.MethodDef = refl
place_is tables.Param = refl
place_is tables.InterfaceImpl = refl
place_is tables.MemberRef = refl
place_is tables.Constant = refl
place_is tables.CustomAttribute = refl
place_is tables.FieldMarshal = refl
place_is tables.DeclSecurity = refl
place_is tables.ClassLayout = refl
place_is tables.FieldLayout = refl
place_is tables.StandAloneSig = refl
place_is tables.EventMap = refl
place_is tables.Event = refl
place_is tables.PropertyMap = refl
place_is tables.Property = refl
place_is tables.MethodSemantics = refl
place_is tables.MethodImpl = refl
place_is tables.ModuleRef = refl
place_is tables.TypeSpec = refl
place_is tables.ImplMap = refl
place_is tables.FieldRva = refl
place_is tables.Assembly = refl
place_is tables.AssemblyProcessor = refl
place_is tables.AssemblyOs = refl
place_is tables.AssemblyRef = refl
place_is tables.AssemblyRefProcessor = refl
place_is tables.AssemblyRefOs = refl
place_is tables.File = refl
place_is tables.ExportedType = refl
place_is tables.ManifestResource = refl
place_is tables.NestedClass = refl
place_is tables.GenericParam = refl
place_is tables.MethodSpec = refl
place_is tables.GenericParamConstraint = refl

pub place_low : (t : Table) → place_of t < length all_tables
place_low tables.Module = lit< tt
place_low tables.TypeRef = lit< tt
place_low tables.TypeDef = lit< tt
place_low tables.Field = lit< tt
place_low tables.MethodDef = lit< tt
place_low tables.Param = lit< tt
place_low tables.InterfaceImpl = lit< tt
place_low tables.MemberRef = lit< tt
place_low tables.Constant = lit< tt
place_low tables.CustomAttribute = lit< tt
place_low tables.FieldMarshal = lit< tt
place_low tables.DeclSecurity = lit< tt
place_low tables.ClassLayout = lit< tt
place_low tables.FieldLayout = lit< tt
place_low tables.StandAloneSig = lit< tt
place_low tables.EventMap = lit< tt
place_low tables.Event = lit< tt
place_low tables.PropertyMap = lit< tt
place_low tables.Property = lit< tt
place_low tables.MethodSemantics = lit< tt
place_low tables.MethodImpl = lit< tt
place_low tables.ModuleRef = lit< tt
place_low tables.TypeSpec = lit< tt
place_low tables.ImplMap = lit< tt
place_low tables.FieldRva = lit< tt
place_low tables.Assembly = lit< tt
place_low tables.AssemblyProcessor = lit< tt
place_low tables.AssemblyOs = lit< tt
place_low tables.AssemblyRef = lit< tt
place_low tables.AssemblyRefProcessor = lit< tt
place_low tables.AssemblyRefOs = lit< tt
place_low tables.File = lit< tt
place_low tables.ExportedType = lit< tt
place_low tables.ManifestResource = lit< tt
place_low tables.NestedClass = lit< tt
place_low tables.GenericParam = lit< tt
place_low tables.MethodSpec = lit< tt
place_low tables.GenericParamConstraint = lit< tt

-- Each cell of what is written stands where the sums say.
stands_written : (sizes : Sizes) (rows : Rows) (t : Table) (r c : ℕ) → Fit sizes rows → r < length (rows t) → c < length (columns_of t)
    → Stands (flat_map (rows_bytes sizes rows) all_tables) (table_start sizes t + r * row_width sizes t + total (take c (widths_of sizes t))) (le (get_or (widths_of sizes t) c 0) (get_or (get_or (rows t) r []) c 0))
stands_written sizes rows t r c fit r_lt c_lt =
    let whole : List ℕ = flat_map (rows_bytes sizes rows) all_tables in
    let ws : List ℕ = widths_of sizes t in
    let row : List ℕ = get_or (rows t) r [] in
    let good = fit.fits t in
    let good_row : RowFits ws row = row_fits ws (rows t) r r_lt good in
    let c_in : c < length ws = omega (arith, length-map (columns_of t) (width_of sizes)) in
    let piece = stands_piece (rows_bytes sizes rows) all_tables tables.Module (place_of t) (place_low t) in
    let here : Stands whole (table_start sizes t) (rows_bytes sizes rows (get_or all_tables (place_of t) tables.Module)) =
    subst (λ (k : ℕ). Stands whole k (rows_bytes sizes rows (get_or all_tables (place_of t) tables.Module))) (sizes_before sizes rows fit (take (place_of t) all_tables)) piece in
    let a : Stands whole (table_start sizes t) (rows_bytes sizes rows t) = subst (λ (x : Table). Stands whole (table_start sizes t) (rows_bytes sizes rows x)) (place_is t) here in
    let b : Stands (rows_bytes sizes rows t) (r * total ws) (row_bytes ws row) =
    subst (λ (k : ℕ). Stands (rows_bytes sizes rows t) k (row_bytes ws row)) (rows_length ws (rows t) r (omega arith) good) (stands_piece (row_bytes ws) (rows t) [] r r_lt) in
    let d = stands_cell ws row c c_in good_row in
    let ab = stands_in whole (rows_bytes sizes rows t) (row_bytes ws row) (table_start sizes t) (r * total ws) a b in
    stands_in whole (row_bytes ws row) (le (get_or ws c 0) (get_or row c 0)) (table_start sizes t + r * total ws) (total (take c ws)) ab d

-- what is read from a stream that begins as it is written
whole_is : (sizes : Sizes) (rows : Rows) (rest : List ℕ) → table_bytes sizes rows ++ rest ≡ table_head sizes ++ (row_counts sizes.rows ++ (flat_map (rows_bytes sizes rows) all_tables ++ rest))
whole_is sizes rows rest =
    append_assoc (table_head sizes ++ row_counts sizes.rows) (flat_map (rows_bytes sizes rows) all_tables) rest
    ∙ append_assoc (table_head sizes) (row_counts sizes.rows) (flat_map (rows_bytes sizes rows) all_tables ++ rest)

pub written_begun : (sizes : Sizes) (rows : Rows) (rest : List ℕ) → Fit sizes rows → Begun sizes (table_bytes sizes rows ++ rest) (flat_map (rows_bytes sizes rows) all_tables ++ rest)
written_begun sizes rows rest fit =
    subst (λ (x : List ℕ). Begun sizes x (flat_map (rows_bytes sizes rows) all_tables ++ rest)) (sym (whole_is sizes rows rest)) (begun sizes (flat_map (rows_bytes sizes rows) all_tables ++ rest) fit.many fit.small)

pub written_end : (sizes : Sizes) (rows : Rows) (rest : List ℕ) → Fit sizes rows → rows_end (table_bytes sizes rows ++ rest) ≡ length (table_bytes sizes rows)
written_end sizes rows rest fit =
    let bytes : List ℕ = table_bytes sizes rows ++ rest in
    let b = written_begun sizes rows rest fit in
    let all : total (map (table_size (sizes_of bytes)) all_tables) ≡ length (flat_map (rows_bytes sizes rows) all_tables) = ap (λ (s : Sizes). total (map (table_size s) all_tables)) b.sizes_are ∙ sym (all_length sizes rows fit all_tables) in
    omega (arith, b.from_is, all, length-append (table_head sizes ++ row_counts sizes.rows) (flat_map (rows_bytes sizes rows) all_tables), length-append (table_head sizes) (row_counts sizes.rows), length-table_head sizes)

-- The number at each cell is the row's.
cell_again : (sizes : Sizes) (rows : Rows) (rest : List ℕ) (t : Table) (r c : ℕ) → Fit sizes rows → r < length (rows t) → c < length (columns_of t)
    → cell (table_bytes sizes rows ++ rest) t r c ≡ get_or (get_or (rows t) r []) c 0
cell_again sizes rows rest t r c fit r_lt c_lt =
    let bytes : List ℕ = table_bytes sizes rows ++ rest in
    let b = written_begun sizes rows rest fit in
    let ws : List ℕ = widths_of sizes t in
    let n : ℕ = get_or (get_or (rows t) r []) c 0 in
    let w : ℕ = get_or ws c 0 in
    let place : ℕ = table_start sizes t + r * row_width sizes t + total (take c ws) in
    let c_in : c < length ws = omega (arith, length-map (columns_of t) (width_of sizes)) in
    let low : n < 256 ^ w = cell_fits ws (get_or (rows t) r []) c c_in (row_fits ws (rows t) r r_lt (fit.fits t)) in
    let here : Stands (flat_map (rows_bytes sizes rows) all_tables ++ rest) place (le w n) =
    stands_before (flat_map (rows_bytes sizes rows) all_tables) rest (le w n) place (stands_written sizes rows t r c fit r_lt c_lt) in
    let in_rows : Stands (drop (rows_from bytes) bytes) place (le w n) = subst (λ (x : List ℕ). Stands x place (le w n)) (sym b.dropped) here in
    let sum : rows_from bytes + table_start sizes t + r * row_width sizes t + total (take c ws) ≡ rows_from bytes + place = omega arith in
    ap (λ (s : Sizes). number_at bytes (rows_from bytes + table_start s t + r * row_width s t + total (take c (widths_of s t))) (get_or (widths_of s t) c 0)) b.sizes_are
    ∙ ap (λ (k : ℕ). number_at bytes k w) sum
    ∙ ap (λ (xs : List ℕ). number (take w xs)) (sym (drop-drop place (rows_from bytes) bytes))
    ∙ read_number (drop (rows_from bytes) bytes) place w n low in_rows

-- All rows are read again.
pub raw_again : (sizes : Sizes) (rows : Rows) (rest : List ℕ) (t : Table) → Fit sizes rows → raw (table_bytes sizes rows ++ rest) t ≡ rows t
raw_again sizes rows rest t fit =
    let bytes : List ℕ = table_bytes sizes rows ++ rest in
    let b = written_begun sizes rows rest fit in
    let ws : List ℕ = widths_of sizes t in
    let count : count_of (sizes_of bytes) t ≡ length (rows t) = ap (λ (s : Sizes). count_of s t) b.sizes_are ∙ fit.counts t in
    rw count (upto_is [] 0 (rows t) (λ row. map (λ column. cell bytes t row column) (upto 0 (length (columns_of t)))) (λ r lt.
    let row : List ℕ = get_or (rows t) r [] in
    let len : length row ≡ length (columns_of t) = row_length ws row (row_fits ws (rows t) r lt (fit.fits t)) ∙ length-map (columns_of t) (width_of sizes) in
    let zero_r : 0 + r ≡ r = zero-add r in
    rw (zero_r, ← len) (upto_is 0 0 row (λ column. cell bytes t r column) (λ c lt_c.
    ap (λ (k : ℕ). cell bytes t r k) (zero-add c) ∙ cell_again sizes rows rest t r c fit lt (omega arith)))))

-- A whole stream: its header, what is written, and that it has no fault.
use Rattle.std.proofs.Common.{◌≡◌, ℕ, zero, suc, ◌+◌, ◌*◌, ◌/◌, ◌%◌, ◌^◌, ◌<◌, ◌≤◌, Bool, true, false, ltb, eqb, List, [], ◌∷◌, ◌++◌, length, get_or, take, drop, map, Option, Some, None, refl, sym, ap, subst, ◌∙◌, inl, inr, append_assoc, arith, length-append, zero-add}
use Rattle.std.specs.Prelude.{◌&&◌, not, is_some, option_map}
use Rattle.std.specs.List.{flat_map, AllByRecursion}
use Rattle.std.proofs.Math.Pow.{pow_mono}
use Rattle.std.proofs.lemmas.Bool.{cases_lt, lt-ltb, eq-eqb, ne_eqb}
use Rattle.std.proofs.lemmas.List.{append-nil, length-map, get_or-map}
use Rattle.std.proofs.lemmas.Nat.{shr-shr, shr_below}
use Rattle.md_bytes.specs.Bytes.{le, number}
use Rattle.md_bytes.specs.Stands.{Stands}
use Rattle.md_bytes.proofs.NumberLemmas.{read_number}
use Rattle.md_bytes.proofs.StandsLemmas.{stands_before}
use Rattle.md_schema.specs.declared.faults.ImageFault.{ImageFault}
use Rattle.md_schema.specs.declared.faults.ImageKind.TheVariants as kinds
use Rattle.md_schema.specs.declared.table.Table.{Table}
use Rattle.md_schema.specs.declared.table.Table.TheVariants as tables
use Rattle.md_schema.specs.declared.sizes.Sizes.{Sizes}
use Rattle.md_schema.specs.Schema.{all_tables, number_of}
use Rattle.md_schema.specs.Tables.{has_bit, heap_bits, upto, valid_of, count_at, sizes_of, rows_from, rows_end, widths_of, raw}
use Rattle.md_schema.specs.Widths.{count_of}
use Rattle.md_schema.specs.Written.{bits, flag, row_counts, table_head, rows_bytes, table_bytes, RowFits, Fit}
use Rattle.md_schema.proofs.CountLemmas.{upto_is, bits_low, length-table_head}
use Rattle.md_schema.proofs.TablesLemmas.{raw_again, written_end}
use Rattle.md_tables.specs.declared.lists.RowList.{RowList}
use Rattle.md_tables.proofs.FirstLemmas.{none_from}
use Rattle.md_tables.proofs.HeaderLemmas.{whole_rows}
use Rattle.md_tables.specs.Faults.{first_from, is_unknown, has_unknown, header_fault, list_fault, fault_of, disorder, row_lists, or_else, list_place}
use Rattle.md_schema.specs.Faults.{fault_at}
use Rattle.md_tables.specs.Head.{head_bytes}
use Rattle.md_tables.specs.Numbers.{Rows, by_number, is_known, count_or}

-- ---- the header that is read

pub eight : (xs : List ℕ) → 4 ≤ length xs → number (take 8 xs) ≡ number (take 4 xs) + 4294967296 * number (take 4 (drop 4 xs))
eight [] h = absurd (omega arith)
eight (a ∷ []) h = absurd (omega arith)
eight (a ∷ b ∷ []) h = absurd (omega arith)
eight (a ∷ b ∷ c ∷ []) h = absurd (omega arith)
eight (a ∷ b ∷ c ∷ d ∷ rest) h = omega arith

pub counts_all : (bytes rows : List ℕ) → length rows ≡ 45 → ((k : ℕ) → k < 45 → get_or rows k 0 ≡ count_at bytes k) → rows ≡ map (count_at bytes) (upto 0 45)
counts_all bytes rows many h =
    let all : map (count_at bytes) (upto 0 (length rows)) ≡ rows = upto_is 0 0 rows (count_at bytes) (λ i lt. ap (count_at bytes) (zero-add i) ∙ sym (h i (omega arith))) in
    sym (subst (λ (k : ℕ). map (count_at bytes) (upto 0 k) ≡ rows) many all)

-- ---- how many rows are read

pub length-upto : (n k : ℕ) → length (upto n k) ≡ k
unfolding upto
length-upto n zero = refl
length-upto n (suc k) = ap suc (length-upto (suc n) k)

pub count_raw : (bytes : List ℕ) (t : Table) → length (raw bytes t) ≡ count_of (sizes_of bytes) t
count_raw bytes t = length-map (upto 0 (count_of (sizes_of bytes) t)) _ ∙ length-upto 0 (count_of (sizes_of bytes) t)

-- ---- what is written fits

counts_small : (rows : Rows) → ((t : Table) → length (rows t) < 2 ^ 24) → (c : Option Table) → count_or rows c < 2 ^ 32
counts_small rows h None = omega arith
counts_small rows h (Some t) = let low = h t in omega (arith, low)

all_small : (rows : Rows) → ((t : Table) → length (rows t) < 2 ^ 24) → (cs : List (Option Table)) → AllByRecursion (λ n. n < 2 ^ 32) (map (count_or rows) cs)
all_small rows h [] = tt
all_small rows h (c ∷ cs) = (counts_small rows h c, all_small rows h cs)

pub count_is : (rows : Rows) (t : Table) → get_or (map (count_or rows) by_number) (number_of t) 0 ≡ length (rows t)
count_is rows tables.Module = refl
count_is rows tables.TypeRef = refl
count_is rows tables.TypeDef = refl
count_is rows tables.Field = refl
count_is rows tables.MethodDef = refl
count_is rows tables.Param = refl
count_is rows tables.InterfaceImpl = refl
count_is rows tables.MemberRef = refl
count_is rows tables.Constant = refl
count_is rows tables.CustomAttribute = refl
count_is rows tables.FieldMarshal = refl
count_is rows tables.DeclSecurity = refl
count_is rows tables.ClassLayout = refl
count_is rows tables.FieldLayout = refl
count_is rows tables.StandAloneSig = refl
count_is rows tables.EventMap = refl
count_is rows tables.Event = refl
count_is rows tables.PropertyMap = refl
count_is rows tables.Property = refl
count_is rows tables.MethodSemantics = refl
count_is rows tables.MethodImpl = refl
count_is rows tables.ModuleRef = refl
count_is rows tables.TypeSpec = refl
count_is rows tables.ImplMap = refl
count_is rows tables.FieldRva = refl
count_is rows tables.Assembly = refl
count_is rows tables.AssemblyProcessor = refl
count_is rows tables.AssemblyOs = refl
count_is rows tables.AssemblyRef = refl
count_is rows tables.AssemblyRefProcessor = refl
count_is rows tables.AssemblyRefOs = refl
count_is rows tables.File = refl
count_is rows tables.ExportedType = refl
count_is rows tables.ManifestResource = refl
count_is rows tables.NestedClass = refl
count_is rows tables.GenericParam = refl
count_is rows tables.MethodSpec = refl
count_is rows tables.GenericParamConstraint = refl

pub fits_all : (sizes : Sizes) (rows : Rows) → sizes.rows ≡ map (count_or rows) by_number → ((t : Table) → length (rows t) < 2 ^ 24)
    → ((t : Table) → AllByRecursion (RowFits (widths_of sizes t)) (rows t)) → Fit sizes rows
fits_all sizes rows is few good = record {
  many = ap length is;
  small = subst (λ (ns : List ℕ). AllByRecursion (λ n. n < 2 ^ 32) ns) (sym is) (all_small rows few by_number);
  counts = λ t. ap (λ (ns : List ℕ). get_or ns (number_of t) 0) is ∙ count_is rows t;
  fits = good;
}

-- ---- no bit of Valid is unknown

bit_of : (ns : List ℕ) (i : ℕ) → i < length ns → has_bit (bits ns) i ≡ ltb 0 (get_or ns i 0)
bit_of [] i lt = absurd (omega arith)
bit_of (zero ∷ ns) zero lt = ne_eqb _ _ (λ same. omega arith)
bit_of (suc n ∷ ns) zero lt =
    let some : ltb 0 (suc n) ≡ true = lt-ltb _ _ (omega arith) in
    let odd : eqb ((1 + 2 * bits ns) / 2 ^ 0 % 2) 1 ≡ true = eq-eqb _ _ (omega arith) in
    rw (some, odd) refl
bit_of (zero ∷ ns) (suc i) lt =
    let half : (0 + 2 * bits ns) / 2 ≡ bits ns = omega arith in
    let down : (0 + 2 * bits ns) / 2 ^ suc i ≡ (0 + 2 * bits ns) / 2 / 2 ^ i = ap (λ (k : ℕ). (0 + 2 * bits ns) / 2 ^ k) (omega arith) ∙ sym (shr-shr (0 + 2 * bits ns) 1 i) in
    ap (λ (n : ℕ). eqb (n % 2) 1) (down ∙ ap (λ (n : ℕ). n / 2 ^ i) half) ∙ bit_of ns i (omega arith)
bit_of (suc n ∷ ns) (suc i) lt =
    let some : ltb 0 (suc n) ≡ true = lt-ltb _ _ (omega arith) in
    let half : (1 + 2 * bits ns) / 2 ≡ bits ns = omega arith in
    let down : (1 + 2 * bits ns) / 2 ^ suc i ≡ (1 + 2 * bits ns) / 2 / 2 ^ i = ap (λ (k : ℕ). (1 + 2 * bits ns) / 2 ^ k) (omega arith) ∙ sym (shr-shr (1 + 2 * bits ns) 1 i) in
    let value : bits (suc n ∷ ns) ≡ 1 + 2 * bits ns = rw some refl in
    ap (λ (v : ℕ). has_bit v (suc i)) value ∙ ap (λ (n : ℕ). eqb (n % 2) 1) (down ∙ ap (λ (n : ℕ). n / 2 ^ i) half) ∙ bit_of ns i (omega arith)

bit_past : (ns : List ℕ) (i : ℕ) → length ns ≤ i → has_bit (bits ns) i ≡ false
bit_past ns i le =
    let low = bits_low ns in
    let up : 2 ^ length ns ≤ 2 ^ i = pow_mono {i = length ns} {j = i} le in
    let small : bits ns < 2 ^ i = omega (arith, low, up) in
    let below : bits ns / 2 ^ i < 2 ^ 0 = shr_below (bits ns) 0 i (subst (λ (k : ℕ). bits ns < 2 ^ k) (sym (zero-add i)) small) in
    let none : bits ns / 2 ^ i ≡ 0 = omega (arith, below) in
    ap (λ (n : ℕ). eqb (n % 2) 1) none

no_rows : (rows : Rows) (c : Option Table) → is_some c ≡ false → count_or rows c ≡ 0
no_rows rows None h = refl
no_rows rows (Some t) h = absurd cc

known_bit : (b k : Bool) → (k ≡ false → b ≡ false) → (b && not k) ≡ false
known_bit true true h = refl
known_bit true false h = h refl
known_bit false true h = refl
known_bit false false h = refl

inside : (rows : Rows) (n : ℕ) → n < 45 → is_known n ≡ false → has_bit (bits (map (count_or rows) by_number)) n ≡ false
inside rows n lt unknown =
    let counts : List ℕ = map (count_or rows) by_number in
    let here : get_or counts n 0 ≡ count_or rows (get_or by_number n None) = get_or-map (count_or rows) by_number n None 0 lt in
    bit_of counts n lt ∙ ap (λ (k : ℕ). ltb 0 k) (here ∙ no_rows rows (get_or by_number n None) unknown)

pub unknown_none : (rows : Rows) (n : ℕ) → is_unknown (bits (map (count_or rows) by_number)) n ≡ false
unknown_none rows n = known_bit (has_bit (bits (map (count_or rows) by_number)) n) (is_known n) (λ unknown.
    elim (cases_lt n 45) [ inl lt ↦ inside rows n lt unknown | inr le ↦ bit_past (map (count_or rows) by_number) n le ])

-- ---- what is written has no fault

bits_in : (sizes : Sizes) → Stands (table_head sizes) 8 (le 8 (bits sizes.rows))
unfolding table_head
bits_in sizes = record { front = take 8 (table_head sizes); back = drop 16 (table_head sizes); split = refl; at = refl }

pub valid_is : (sizes : Sizes) (tail : List ℕ) → length sizes.rows ≡ 45 → valid_of (table_head sizes ++ tail) ≡ bits sizes.rows
valid_is sizes tail many =
    let low : bits sizes.rows < 2 ^ 45 = subst (λ (k : ℕ). bits sizes.rows < 2 ^ k) many (bits_low sizes.rows) in
    read_number (table_head sizes ++ tail) 8 8 (bits sizes.rows) (omega (arith, low)) (stands_before (table_head sizes) tail (le 8 (bits sizes.rows)) 8 (bits_in sizes))

pub funext : {A B : Type 0} (f g : A → B) → ((x : A) → f x ≡ g x) → f ≡ g
funext f g h = λ i x. h x i

pub written_rows : (sizes : Sizes) (rows : Rows) → Fit sizes rows → (t : Table) → raw (table_bytes sizes rows) t ≡ rows t
written_rows sizes rows fit t = subst (λ (x : List ℕ). raw x t ≡ rows t) (append-nil (table_bytes sizes rows)) (raw_again sizes rows [] t fit)

pub faultless : (sizes : Sizes) (rows : Rows) → Fit sizes rows → sizes.rows ≡ map (count_or rows) by_number → disorder rows row_lists ≡ None → fault_of (table_bytes sizes rows) ≡ None
faultless sizes rows fit is ordered =
    let bytes : List ℕ = table_bytes sizes rows in
    let tail : List ℕ = row_counts sizes.rows ++ flat_map (rows_bytes sizes rows) all_tables in
    let front : bytes ≡ table_head sizes ++ tail = append_assoc (table_head sizes) (row_counts sizes.rows) (flat_map (rows_bytes sizes rows) all_tables) in
    let long : 24 ≤ length bytes = omega (arith, ap length front, length-append (table_head sizes) tail, length-table_head sizes) in
    let valid : valid_of bytes ≡ bits (map (count_or rows) by_number) = ap valid_of front ∙ valid_is sizes tail fit.many ∙ ap bits is in
    let none : first_from (is_unknown (bits (map (count_or rows) by_number))) 0 64 ≡ None = none_from (is_unknown (bits (map (count_or rows) by_number))) 0 64 (unknown_none rows) in
    let known : has_unknown (valid_of bytes) ≡ false = ap has_unknown valid ∙ ap (λ (o : Option ℕ). is_some o) none in
    let ends : rows_end bytes ≡ length bytes = subst (λ (x : List ℕ). rows_end x ≡ length bytes) (append-nil bytes) (written_end sizes rows [] fit) in
    let lists : disorder (raw bytes) row_lists ≡ None = ap (λ (r : Rows). disorder r row_lists) (funext (raw bytes) rows (written_rows sizes rows fit)) ∙ ordered in
    let no_list : list_fault bytes ≡ None = ap (λ (d : Option (RowList × ℕ)). option_map (λ (found : RowList × ℕ). fault_at kinds.ListOrder (list_place (sizes_of bytes) (rows_from bytes) found.0 found.1)) d) lists in
    ap (λ (o : Option ImageFault). or_else o (list_fault bytes)) (whole_rows bytes long known (omega (arith, ends))) ∙ no_list

-- ---- the parts of what is written

head_is : (sizes : Sizes) (heaps valid : ℕ) → heaps ≡ flag sizes.long_texts 1 + flag sizes.long_guids 2 + flag sizes.long_blobs 4 → valid ≡ bits sizes.rows → head_bytes heaps valid ≡ table_head sizes
unfolding table_head
head_is sizes heaps valid h v = ap (λ (n : ℕ). head_bytes n valid) h ∙ ap (λ (n : ℕ). head_bytes (flag sizes.long_texts 1 + flag sizes.long_guids 2 + flag sizes.long_blobs 4) n) v

pub stream_is : (sizes set_sizes : Sizes) (rows : Rows) (out0 out1 out2 out3 : List ℕ) (heaps valid : ℕ) → sizes ≡ set_sizes
    → heaps ≡ flag sizes.long_texts 1 + flag sizes.long_guids 2 + flag sizes.long_blobs 4 → valid ≡ bits sizes.rows
    → out0 ≡ [] → out1 ≡ out0 ++ head_bytes heaps valid → out2 ≡ out1 ++ row_counts sizes.rows → out3 ≡ out2 ++ flat_map (rows_bytes sizes rows) all_tables
    → out3 ≡ table_bytes set_sizes rows
stream_is sizes set_sizes rows out0 out1 out2 out3 heaps valid same h v e0 e1 e2 e3 =
    let one : out1 ≡ table_head sizes = e1 ∙ ap (λ (x : List ℕ). x ++ head_bytes heaps valid) e0 ∙ head_is sizes heaps valid h v in
    let two : out2 ≡ table_head sizes ++ row_counts sizes.rows = e2 ∙ ap (λ (x : List ℕ). x ++ row_counts sizes.rows) one in
    e3 ∙ ap (λ (x : List ℕ). x ++ flat_map (rows_bytes sizes rows) all_tables) two ∙ ap (λ (s : Sizes). table_bytes s rows) same

-- ---- what is read as sizes

abbrev made : Bool → Bool → Bool → List ℕ → Sizes
made a b c ns = record { long_texts = a; long_guids = b; long_blobs = c; rows = ns }

pub made_is : (bytes : List ℕ) (a b c : Bool) (rows : List ℕ) → a ≡ has_bit (heap_bits bytes) 0 → b ≡ has_bit (heap_bits bytes) 1 → c ≡ has_bit (heap_bits bytes) 2 → rows ≡ map (count_at bytes) (upto 0 45)
    → made a b c rows ≡ sizes_of bytes
made_is bytes a b c rows ea eb ec er =
    ap (λ (x : Bool). made x b c rows) ea ∙ ap (λ (x : Bool). made (has_bit (heap_bits bytes) 0) x c rows) eb
    ∙ ap (λ (x : Bool). made (has_bit (heap_bits bytes) 0) (has_bit (heap_bits bytes) 1) x rows) ec
    ∙ ap (λ (x : List ℕ). made (has_bit (heap_bits bytes) 0) (has_bit (heap_bits bytes) 1) (has_bit (heap_bits bytes) 2) x) er

-- ---- the list that is disordered, as it was found in the rows that were read

pub list_is : (bytes : List ℕ) (sizes : Sizes) (from : ℕ) (rows : Rows) (found : Option ImageFault) → sizes ≡ sizes_of bytes → from ≡ rows_from bytes → ((t : Table) → rows t ≡ raw bytes t)
    → found ≡ option_map (λ (d : RowList × ℕ). fault_at kinds.ListOrder (list_place sizes from d.0 d.1)) (disorder rows row_lists) → found ≡ list_fault bytes
list_is bytes sizes from rows found same begin h e =
    e ∙ ap (λ (r : Rows). option_map (λ (d : RowList × ℕ). fault_at kinds.ListOrder (list_place sizes from d.0 d.1)) (disorder r row_lists)) (funext rows (raw bytes) h)
    ∙ ap (λ (s : Sizes). option_map (λ (d : RowList × ℕ). fault_at kinds.ListOrder (list_place s from d.0 d.1)) (disorder (raw bytes) row_lists)) same
    ∙ ap (λ (n : ℕ). option_map (λ (d : RowList × ℕ). fault_at kinds.ListOrder (list_place (sizes_of bytes) n d.0 d.1)) (disorder (raw bytes) row_lists)) begin

pub fault_is : (bytes : List ℕ) (found : Option ImageFault) → header_fault bytes ≡ None → found ≡ list_fault bytes → fault_of bytes ≡ found
fault_is bytes found h e = ap (λ (o : Option ImageFault). or_else o (list_fault bytes)) h ∙ sym e

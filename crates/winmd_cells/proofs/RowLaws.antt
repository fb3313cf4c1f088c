-- All rows of a table, by their numbers.
use Rattle.std.proofs.Common.{◌≡◌, ◌≤◌, ◌<◌, ℕ, zero, suc, ◌+◌, ◌-◌, List, [], ◌∷◌, ◌++◌, map, take, drop, length, get_or, nat_le, refl, sym, ap, ◌∙◌, arith, Bool, true, false, cond, ⊎_elim}
use Rattle.std.specs.List.{filter, drop-map, take-map}
use Rattle.std.proofs.lemmas.List.{get_or_past}
use Rattle.std.proofs.lemmas.Bool.Decides.{leb_tells}
use Rattle.md_schema.specs.Tables.{raw, upto}
use Rattle.md_schema.specs.declared.column.Column.{Column}
use Rattle.md_schema.specs.declared.table.Table.{Table}
use Rattle.md_schema.specs.Schema.{columns_of}
use Rattle.md_tables.specs.Rows.{rows_of}
use Rattle.winmd_rows.specs.Values.{Heaps, followed_rows}
use Rattle.winmd_lines.specs.Cells.{numbered, all_rows, Row, Numbered, leads, passes, cell, leading_rows}
use Rattle.winmd_cells.specs.declared.image.Image.{Image}
use Rattle.winmd_cells.specs.Indexed.{leads_by, only}
use Rattle.winmd_cells.specs.Seen.{seen, tables_in, heaps_in, offsets_in}

not_below : (k : ℕ) → suc k ≤ 0 → ⊥
not_below k h = omega arith

map_upto_same : {A : Type 0} (f g : ℕ → A) (n m : ℕ) → ((k : ℕ) → n ≤ k → f k ≡ g k) → map f (upto n m) ≡ map g (upto n m)
unfolding upto
map_upto_same f g n zero same = refl
map_upto_same f g n (suc m) same = rw (same n (omega arith), map_upto_same f g (suc n) m (λ k above. same k (omega arith))) refl

numbered_is : (n : ℕ) (rows : List Row) → numbered n rows ≡ map (λ k. (k, get_or rows (k - n) [])) (upto n (length rows))
unfolding upto
numbered_is n [] = refl
numbered_is n (row ∷ rows) =
    let here : n - n ≡ 0 = omega arith in
    let later : (k : ℕ) → suc n ≤ k → ◌≡◌ {A = Numbered} (k, get_or rows (k - suc n) []) (k, get_or (row ∷ rows) (k - n) []) = λ k above. (let e : k - n ≡ suc (k - suc n) = omega arith in rw e refl) in
    let tail : numbered (suc n) rows ≡ map (λ k. (k, get_or (row ∷ rows) (k - n) [])) (upto (suc n) (length rows)) = numbered_is (suc n) rows ∙ map_upto_same {A = Numbered} (λ k. (k, get_or rows (k - suc n) [])) (λ k. (k, get_or (row ∷ rows) (k - n) [])) (suc n) (length rows) later in
    rw (here, tail) refl

length_followed : (heaps : Heaps) (offset : ℕ → ℕ → ℕ) (r : ℕ) (columns : List Column) (rows : List (List ℕ)) → length (followed_rows heaps offset r columns rows) ≡ length rows
length_followed heaps offset r columns [] = refl
length_followed heaps offset r columns (row ∷ rows) = rw (length_followed heaps offset (suc r) columns rows) refl

pub length_rows : (image : Image) (table : Table) → length ((tables_in image).rows table) ≡ length (rows_of image.view.now table)
length_rows image table = length_followed (heaps_in image) (offsets_in image table) 0 (columns_of table) (raw image.stream.now table) ∙ ap length (sym (image.read table))

all_seen : (image : Image) (table : Table) → all_rows (tables_in image) table ≡ map (seen image table) (upto 1 (length ((tables_in image).rows table)))
all_seen image table = numbered_is 1 ((tables_in image).rows table)

filter_map : {A B : Type 0} (f : A → B) (p : B → Bool) (xs : List A) → filter p (map f xs) ≡ map f (filter (λ x. p (f x)) xs)
filter_map f p [] = refl
filter_map f p (x ∷ xs) = rw (filter_map f p xs) (elim (p (f x)) as (λ v. cond v (f x ∷ map f (filter (λ y. p (f y)) xs)) (map f (filter (λ y. p (f y)) xs)) ≡ map f (cond v (x ∷ filter (λ y. p (f y)) xs) (filter (λ y. p (f y)) xs))) [ true ↦ refl | false ↦ refl ])

upto_behind : (n m : ℕ) → upto n (suc m) ≡ upto n m ++ (n + m) ∷ []
unfolding upto
upto_behind n zero = let e : n + 0 ≡ n = omega arith in rw e refl
upto_behind n (suc m) = let e : n + suc m ≡ suc n + m = omega arith in rw e (ap (λ xs. n ∷ xs) (upto_behind (suc n) m))

pub take_upto : (n k m : ℕ) → k ≤ m → take k (upto n m) ≡ upto n k
unfolding upto
take_upto n zero m h = refl
take_upto n (suc k) zero h = absurd (not_below k h)
take_upto n (suc k) (suc m) h = ap (λ xs. n ∷ xs) (take_upto (suc n) k m (omega arith))

filter_append : {A : Type 0} (p : A → Bool) (xs ys : List A) → filter p (xs ++ ys) ≡ filter p xs ++ filter p ys
filter_append p [] ys = refl
filter_append p (x ∷ xs) ys = rw (filter_append p xs ys) (elim (p x) as (λ v. cond v (x ∷ (filter p xs ++ filter p ys)) (filter p xs ++ filter p ys) ≡ cond v (x ∷ filter p xs) (filter p xs) ++ filter p ys) [ true ↦ refl | false ↦ refl ])

pub part_seen : (image : Image) (table : Table) (from size : ℕ) → take size (drop from (all_rows (tables_in image) table)) ≡ map (seen image table) (take size (drop from (upto 1 (length ((tables_in image).rows table)))))
part_seen image table from size =
    ap (λ rows. take size (drop from rows)) (all_seen image table) ∙ ap (take size) (drop-map (seen image table) from _) ∙ take-map (seen image table) size _

pub none_yet : (p : ℕ → Bool) → filter p (upto 1 0) ≡ []
unfolding upto
none_yet p = refl

only_is : (p : ℕ → Bool) (n : ℕ) → filter p (n ∷ []) ≡ only (p n) n
only_is p n = elim (p n) as (λ v. cond v (n ∷ []) [] ≡ only v n) [ true ↦ refl | false ↦ refl ]

upto_then : (p : ℕ → Bool) (i : ℕ) → filter p (upto 1 (suc i)) ≡ filter p (upto 1 i) ++ only (p (suc i)) (suc i)
upto_then p i =
    let f : 1 + i ≡ suc i = omega arith in
    ap (filter p) (upto_behind 1 i) ∙ filter_append p (upto 1 i) ((1 + i) ∷ []) ∙ rw f (ap (λ xs. filter p (upto 1 i) ++ xs) (only_is p (suc i)))

pub grows : (p : ℕ → Bool) (i : ℕ) → filter p (upto 1 (i + 1)) ≡ filter p (upto 1 i) ++ only (p (i + 1)) (i + 1)
grows p i =
    let e : i + 1 ≡ suc i = omega arith in
    rw e (upto_then p i)

pub leading_seen : (image : Image) (keyed : Table) (column : ℕ) (owner : Table) (m : ℕ) → leading_rows (tables_in image) keyed column owner m ≡ map (seen image keyed) (filter (leads_by image keyed column owner m) (upto 1 (length ((tables_in image).rows keyed))))
leading_seen image keyed column owner m =
    ap (filter (λ row. passes (leads owner m) (cell row.1 column))) (all_seen image keyed) ∙ filter_map (seen image keyed) (λ row. passes (leads owner m) (cell row.1 column)) (upto 1 (length ((tables_in image).rows keyed)))

-- a list for each number up to a count, and none behind it
pub listed : (f : ℕ → List ℕ) (lists : List (List ℕ)) (count m : ℕ) → length lists ≡ suc count → ((k : ℕ) → k < length lists → get_or lists k [] ≡ f k) → get_or lists m [] ≡ cond (nat_le m count) (f m) []
listed f lists count m long each = ⊎_elim (λ h. rw h.0 (each m (omega (arith, long, h.1)))) (λ h. rw h.0 (get_or_past lists m [] (omega (arith, long, h.1)))) (leb_tells m count)

pub mapped_if : {A B : Type 0} (f : A → B) (b : Bool) (xs : List A) → map f (cond b xs []) ≡ cond b (map f xs) []
mapped_if f true xs = refl
mapped_if f false xs = refl

pub counted_none : [] ≡ upto 1 0
unfolding upto
counted_none = refl

pub counted_on : (i : ℕ) → upto 1 i ++ (i + 1) ∷ [] ≡ upto 1 (i + 1)
counted_on i =
    let e : i + 1 ≡ suc i = omega arith in
    let f : 1 + i ≡ suc i = omega arith in
    rw e (sym (upto_behind 1 i ∙ rw f refl))

pub length_upto : (n m : ℕ) → length (upto n m) ≡ m
unfolding upto
length_upto n zero = refl
length_upto n (suc m) = ap suc (length_upto (suc n) m)

pub counted_whole : (numbers : List ℕ) (m : ℕ) → numbers ≡ upto 1 m → (length numbers ≡ m) × (numbers ≡ upto 1 (length numbers))
counted_whole numbers m is =
    let long : length numbers ≡ m = ap length is ∙ length_upto 1 m in
    (long, is ∙ ap (upto 1) (sym long))

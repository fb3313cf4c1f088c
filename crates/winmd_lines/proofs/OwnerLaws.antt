-- The rows that belong to a row, wherever they stand.
use Rattle.std.proofs.Common.{◌≡◌, ℕ, zero, suc, ◌+◌, ◌<◌, ◌≤◌, Bool, true, false, leb, List, [], ◌∷◌, ◌++◌, length, drop, map, get_or, Ok, refl, sym, ap, subst, ◌∙◌, arith, inl, inr}
use Rattle.std.specs.Prelude.{◌==◌, ◌&&◌, ◌⊎◌}
use Rattle.std.specs.List.{filter}
use Rattle.std.proofs.lemmas.Bool.{eq-eqb, ne_eqb, le-leb}
use Rattle.std.proofs.lemmas.List.{append-nil}
use Rattle.std.proofs.lemmas.List.Elements.{filter-append}
use Rattle.md_schema.specs.declared.table.Table.{Table}
use Rattle.md_schema.specs.Schema.{place_of}
use Rattle.winmd_rows.specs.Values.{Value, stated_row}
use Rattle.winmd_lines.specs.Lines.{Drawn, Number, Line}
use Rattle.winmd_lines.specs.Names.{Names, Counts, none, is_in, behind, value_of, written}
use Rattle.winmd_lines.specs.Positions.{behind_all, cell_of, NoneIn, is_last, Apart, IsLast, last, AllOwned, owned}
use Rattle.winmd_lines.specs.Cells.{Row, Numbered, Tables, cell, numbered, passes, leads, rows_of_owner}
use Rattle.winmd_lines.specs.Positions.{Plain}
use Rattle.winmd_lines.proofs.LineLaws.{either, map-append, length-front, same_place, written-append, behind_all-append, behind-none}

-- ---- rows with numbers that don't matter

abbrev pub tag : List ℕ → List Row → List Numbered
tag ns [] = []
tag ns (row ∷ rows) = (get_or ns 0 0, row) ∷ tag (drop 1 ns) rows

tagged : (rows : List Numbered) → rows ≡ tag (map (λ r. r.0) rows) (map (λ r. r.1) rows)
tagged [] = refl
tagged (r ∷ rows) = ap (λ (x : List Numbered). r ∷ x) (tagged rows)

rows-numbered : (n : ℕ) (rows : List Row) → map (λ r. r.1) (numbered n rows) ≡ rows
rows-numbered n [] = refl
rows-numbered n (row ∷ rows) = ap (λ (x : List Row). row ∷ x) (rows-numbered (suc n) rows)

filter-rows : (p : Row → Bool) (rows : List Numbered) → map (λ r. r.1) (filter (λ r. p r.1) rows) ≡ filter p (map (λ r. r.1) rows)
filter-rows p [] = refl
filter-rows p (r ∷ rows) =
    elim (either (p r.1)) [
      | inl e ↦ rw e (ap (λ (x : List Row). r.1 ∷ x) (filter-rows p rows))
      | inr e ↦ rw e (filter-rows p rows)
    ]

pub filter-numbered : (p : Row → Bool) (n : ℕ) (rows : List Row) → (ns : List ℕ) × (filter (λ r. p r.1) (numbered n rows) ≡ tag ns (filter p rows))
filter-numbered p n rows =
    let found : List Numbered = filter (λ r. p r.1) (numbered n rows) in
    (map (λ r. r.0) found, tagged found ∙ ap (tag (map (λ r. r.0) found)) (filter-rows p (numbered n rows) ∙ ap (filter p) (rows-numbered n rows)))

-- ---- rows that lead to a row

abbrev pub leading : ℕ → Table → ℕ → List Value → Bool
leading column owner n row = leads owner n (get_or row column (Value.Number 0))

stated_cell : (row : List Value) (column : ℕ) → cell (stated_row row) column ≡ Ok (get_or row column (Value.Number 0))
stated_cell [] column = refl
stated_cell (v ∷ row) zero = refl
stated_cell (v ∷ row) (suc column) = stated_cell row column

pub filter-stated : (column : ℕ) (owner : Table) (n : ℕ) (rows : List (List Value)) → filter (λ (row : Row). passes (leads owner n) (cell row column)) (map stated_row rows) ≡ map stated_row (filter (leading column owner n) rows)
filter-stated column owner n [] = refl
filter-stated column owner n (row ∷ rows) =
    let c = stated_cell row column in
    elim (either (leading column owner n row)) [
      | inl e ↦ rw (c, e) (ap (λ (x : List Row). stated_row row ∷ x) (filter-stated column owner n rows))
      | inr e ↦ rw (c, e) (filter-stated column owner n rows)
    ]

value_cell : (names : Names) (before : Counts) (cells : List Drawn) (column : ℕ) → get_or (map (value_of names before) cells) column (Value.Number 0) ≡ value_of names before (get_or cells column (Number 0))
value_cell names before [] column = refl
value_cell names before (c ∷ cells) zero = refl
value_cell names before (c ∷ cells) (suc column) = value_cell names before cells column

leads_last : (names : Names) (before : Counts) (c : Drawn) (owner : Table) (n : ℕ) → IsLast c → leads owner n (value_of names before c) ≡ (is_last owner c && (n == before owner))
leads_last names before c owner n (last other) =
    elim (either (place_of owner == place_of other)) [
      | inl e ↦ (let same : owner ≡ other = same_place owner other e in rw e (ap (λ (x : Table). n == before x) (sym same)))
      | inr e ↦ rw e refl
    ]

-- whether the row of a line leads there
pub line_leads : (names : Names) (before : Counts) (l : Line) (column : ℕ) (owner : Table) (n : ℕ) → IsLast (cell_of l column)
    → leading column owner n (map (value_of names before) l.cells) ≡ (is_last owner (cell_of l column) && (n == before owner))
line_leads names before l column owner n h = ap (leads owner n) (value_cell names before l.cells column) ∙ leads_last names before (cell_of l column) owner n h

and_false : (b : Bool) → (b && false) ≡ false
and_false true = refl
and_false false = refl

and_true : (b : Bool) → (b && true) ≡ b
and_true true = refl
and_true false = refl

grows : (before : Counts) (l : Line) (table : Table) → before table ≤ behind before l table
grows before l table =
    elim (either (is_in table l)) [
      | inl e ↦ rw e (omega arith)
      | inr e ↦ rw e (omega arith)
    ]

grows_all : (before : Counts) (ls : List Line) (table : Table) → before table ≤ behind_all before ls table
grows_all before [] table = omega arith
grows_all before (l ∷ ls) table = let one = grows before l table in let rest = grows_all (behind before l) ls table in omega (arith, one, rest)

-- none of these lines leads to a row that is written later, or was written before the last one
pub none_leads : (names : Names) (before : Counts) (ls : List Line) (keyed : Table) (column : ℕ) (owner : Table) (n : ℕ) → AllOwned keyed column ls → (behind_all before ls owner < n) ⊎ (n < before owner)
    → filter (leading column owner n) (written names before ls keyed) ≡ []
none_leads names before [] keyed column owner n o h = refl
none_leads names before (l ∷ ls) keyed column owner n o h =
    let one = grows before l owner in
    let all = grows_all (behind before l) ls owner in
    let later : (behind_all (behind before l) ls owner < n) ⊎ (n < behind before l owner) = elim h [
      | inl low ↦ inl low
      | inr high ↦ inr (omega (arith, one, high))
    ] in
    let other : (n == before owner) ≡ false = ne_eqb _ _ (λ same. elim h [
      | inl low ↦ omega (arith, one, all, low, same)
      | inr high ↦ omega (arith, high, same)
    ]) in
    let rest = none_leads names (behind before l) ls keyed column owner n o.1 later in
    elim (either (is_in keyed l)) [
      | inl e ↦
          let is : IsLast (cell_of l column) = rw e at o.0 in
          let no : leading column owner n (map (value_of names before) l.cells) ≡ false = line_leads names before l column owner n is ∙ ap (λ (b : Bool). is_last owner (cell_of l column) && b) other ∙ and_false (is_last owner (cell_of l column)) in
          rw (e, no) rest
      | inr e ↦ rw e rest
    ]

-- what lines without a row of the owner's table write for its last row
pub own_leads : (names : Names) (before : Counts) (ls : List Line) (keyed : Table) (column : ℕ) (owner : Table) → AllOwned keyed column ls → NoneIn owner ls
    → filter (leading column owner (before owner)) (written names before ls keyed) ≡ owned names before keyed column owner ls
own_leads names before [] keyed column owner o h = refl
own_leads names before (l ∷ ls) keyed column owner o h =
    let still : behind before l owner ≡ before owner = rw h.0 refl in
    let rest : filter (leading column owner (before owner)) (written names (behind before l) ls keyed) ≡ owned names (behind before l) keyed column owner ls =
    subst (λ (n : ℕ). filter (leading column owner n) (written names (behind before l) ls keyed) ≡ owned names (behind before l) keyed column owner ls) still (own_leads names (behind before l) ls keyed column owner o.1 h.1) in
    elim (either (is_in keyed l)) [
      | inl e ↦
          let is : IsLast (cell_of l column) = rw e at o.0 in
          let this : leading column owner (before owner) (map (value_of names before) l.cells) ≡ is_last owner (cell_of l column) =
          line_leads names before l column owner (before owner) is ∙ ap (λ (b : Bool). is_last owner (cell_of l column) && b) (eq-eqb (before owner) (before owner) refl) ∙ and_true (is_last owner (cell_of l column)) in
          elim (either (is_last owner (cell_of l column))) [
            | inl yes_ ↦ rw (e, this ∙ yes_, yes_) (ap (λ (x : List (List Value)). map (value_of names before) l.cells ∷ x) rest)
            | inr no_ ↦ rw (e, this ∙ no_, no_) rest
          ]
      | inr e ↦ rw e rest
    ]

-- a line isn't in two tables
pub one_table : (l : Line) (keyed owner : Table) → (place_of keyed == place_of owner) ≡ false → is_in owner l ≡ true → is_in keyed l ≡ false
one_table l keyed owner d g = ap (λ (t : Table). place_of keyed == place_of t) (sym (same_place owner l.table g)) ∙ d

-- nothing behind them leads there
pub later_leads : (names : Names) (before : Counts) (ls : List Line) (keyed : Table) (column : ℕ) (owner : Table) → (place_of keyed == place_of owner) ≡ false → AllOwned keyed column ls → Apart keyed column owner ls
    → filter (leading column owner (before owner)) (written names before ls keyed) ≡ []
later_leads names before [] keyed column owner d o h = refl
later_leads names before (l ∷ ls) keyed column owner d o h =
    elim (either (is_in owner l)) [
      | inl g ↦
          let past : behind before l owner ≡ suc (before owner) = rw g refl in
          let rest = none_leads names (behind before l) ls keyed column owner (before owner) o.1 (inr (omega (arith, past))) in
          rw (one_table l keyed owner d g) rest
      | inr g ↦
          let apart = rw g at h in
          let still : behind before l owner ≡ before owner = rw g refl in
          let rest : filter (leading column owner (before owner)) (written names (behind before l) ls keyed) ≡ [] =
          subst (λ (n : ℕ). filter (leading column owner n) (written names (behind before l) ls keyed) ≡ []) still (later_leads names (behind before l) ls keyed column owner d o.1 apart.1) in
          elim (either (is_in keyed l)) [
            | inl e ↦
                let is : IsLast (cell_of l column) = rw e at o.0 in
                let no : is_last owner (cell_of l column) ≡ false = rw e at apart.0 in
                let none_ : leading column owner (before owner) (map (value_of names before) l.cells) ≡ false = line_leads names before l column owner (before owner) is ∙ rw no refl in
                rw (e, none_) rest
            | inr e ↦ rw e rest
          ]
    ]

pub owned_front : (keyed : Table) (column : ℕ) (xs ys : List Line) → AllOwned keyed column (xs ++ ys) → AllOwned keyed column xs
owned_front keyed column [] ys h = tt
owned_front keyed column (x ∷ xs) ys h = (h.0, owned_front keyed column xs ys h.1)

pub owned_back : (keyed : Table) (column : ℕ) (xs ys : List Line) → AllOwned keyed column (xs ++ ys) → AllOwned keyed column ys
owned_back keyed column [] ys h = h
owned_back keyed column (x ∷ xs) ys h = owned_back keyed column xs ys h.1

-- The rows that lead to the row of a line are those that are written for it.
pub owned_is : (names : Names) (lines pre : List Line) (l : Line) (own post : List Line) (keyed : Table) (column : ℕ) (owner : Table) → lines ≡ pre ++ l ∷ (own ++ post) → is_in owner l ≡ true → (place_of keyed == place_of owner) ≡ false
    → AllOwned keyed column lines → NoneIn owner own → Apart keyed column owner post
    → filter (leading column owner (suc (behind_all none pre owner))) (written names none lines keyed) ≡ owned names (behind (behind_all none pre) l) keyed column owner own
owned_is names lines pre l own post keyed column owner e g d o n a =
    let before : Counts = behind_all none pre in
    let after : Counts = behind before l in
    let here : after owner ≡ suc (before owner) = rw g refl in
    let all : AllOwned keyed column (pre ++ l ∷ (own ++ post)) = subst (AllOwned keyed column) e o in
    let of_pre = owned_front keyed column pre (l ∷ (own ++ post)) all in
    let of_rest = owned_back keyed column pre (l ∷ (own ++ post)) all in
    let of_own = owned_front keyed column own post of_rest.1 in
    let of_post = owned_back keyed column own post of_rest.1 in
    let test : List Value → Bool = leading column owner (suc (before owner)) in
    let first : filter test (written names none pre keyed) ≡ [] = none_leads names none pre keyed column owner (suc (before owner)) of_pre (inl (omega arith)) in
    let mine : filter test (written names after own keyed) ≡ owned names after keyed column owner own =
    subst (λ (k : ℕ). filter (leading column owner k) (written names after own keyed) ≡ owned names after keyed column owner own) here (own_leads names after own keyed column owner of_own n) in
    let still : behind_all after own owner ≡ suc (before owner) = behind-none after own owner n ∙ here in
    let others : filter test (written names (behind_all after own) post keyed) ≡ [] =
    subst (λ (k : ℕ). filter (leading column owner k) (written names (behind_all after own) post keyed) ≡ []) still (later_leads names (behind_all after own) post keyed column owner d of_post a) in
    let rows : written names none lines keyed ≡ written names none pre keyed ++ (written names after own keyed ++ written names (behind_all after own) post keyed) =
    ap (λ (ls : List Line). written names none ls keyed) e ∙ written-append names none pre (l ∷ (own ++ post)) keyed
    ∙ ap (λ (r : List (List Value)). written names none pre keyed ++ r) (rw (one_table l keyed owner d g) (written-append names after own post keyed)) in
    rw (rows, filter-append test (written names none pre keyed) (written names after own keyed ++ written names (behind_all after own) post keyed), first, filter-append test (written names after own keyed) (written names (behind_all after own) post keyed), mine, others)
    (append-nil (owned names after keyed column owner own))

-- a row that is there
pub row_there : (t : Tables) (names : Names) (lines pre : List Line) (l : Line) (post : List Line) (owner : Table) → Plain t names lines owner → lines ≡ pre ++ l ∷ post → is_in owner l ≡ true
    → leb (suc (behind_all none pre owner)) (length (t.rows owner)) ≡ true
row_there t names lines pre l post owner q e g =
    let before : Counts = behind_all none pre in
    let total : length (t.rows owner) ≡ behind_all none lines owner = ap length q.is ∙ length-front names lines owner in
    let split : behind_all none lines ≡ behind_all (behind before l) post = ap (behind_all none) e ∙ behind_all-append none pre (l ∷ post) in
    let count : behind_all none lines owner ≡ behind_all (behind before l) post owner = ap (λ (c : Counts). c owner) split in
    let here : behind before l owner ≡ suc (before owner) = rw g refl in
    let more = grows_all (behind before l) post owner in
    le-leb _ _ (omega (arith, total, count, here, more))

-- rows that lead to a row, where there are none at all
pub no_rows : (t : Tables) (keyed : Table) (column : ℕ) (owner : Table) (n : ℕ) → t.rows keyed ≡ [] → rows_of_owner t keyed column owner n ≡ []
no_rows t keyed column owner n h =
    elim (either (leb n (length (t.rows owner)))) [
      | inl e ↦ rw (e, h) refl
      | inr e ↦ rw e refl
    ]

-- and in the tables
pub owner_rows : (t : Tables) (names : Names) (lines : List Line) (xs : List (List Value)) (keyed : Table) (column : ℕ) (owner : Table) (n : ℕ) (found : List (List Value)) → t.rows keyed ≡ map stated_row xs
    → leb n (length (t.rows owner)) ≡ true → filter (leading column owner n) xs ≡ found → (ns : List ℕ) × (rows_of_owner t keyed column owner n ≡ tag ns (map stated_row found))
owner_rows t names lines xs keyed column owner n found rows there h =
    let p : Row → Bool = λ row. passes (leads owner n) (cell row column) in
    let all = filter-numbered p 1 (t.rows keyed) in
    (all.0, rw there (all.1 ∙ ap (λ (r : List Row). tag all.0 (filter p r)) rows ∙ ap (tag all.0) (filter-stated column owner n xs ∙ ap (map stated_row) h)))

-- ---- rows of a table that isn't sorted stand together, so their numbers are known

numbered-append : (n : ℕ) (xs ys : List Row) → numbered n (xs ++ ys) ≡ numbered n xs ++ numbered (n + length xs) ys
numbered-append n [] ys = ap (λ (k : ℕ). numbered k ys) (let e : n ≡ n + 0 = omega arith in e)
numbered-append n (x ∷ xs) ys =
    ap (λ (r : List Numbered). (n, x) ∷ r) (numbered-append (suc n) xs ys ∙ ap (λ (k : ℕ). numbered (suc n) xs ++ numbered k ys) (let e : suc n + length xs ≡ n + suc (length xs) = omega arith in e))

filter_none : (p : Row → Bool) (n : ℕ) (rows : List Row) → filter p rows ≡ [] → filter (λ r. p r.1) (numbered n rows) ≡ []
filter_none p n [] h = refl
filter_none p n (x ∷ xs) h =
    elim (either (p x)) [
      | inl e ↦ absurd (let r = rw e at h in cc)
      | inr e ↦ rw e (filter_none p (suc n) xs (rw e at h))
    ]

filter_short : (p : Row → Bool) (rows : List Row) → length (filter p rows) ≤ length rows
filter_short p [] = omega arith
filter_short p (x ∷ xs) =
    let rest = filter_short p xs in
    elim (either (p x)) [
      | inl e ↦ rw e (omega (arith, rest))
      | inr e ↦ rw e (omega (arith, rest))
    ]

filter_every : (p : Row → Bool) (n : ℕ) (rows : List Row) → filter p rows ≡ rows → filter (λ r. p r.1) (numbered n rows) ≡ numbered n rows
filter_every p n [] h = refl
filter_every p n (x ∷ xs) h =
    elim (either (p x)) [
      | inl e ↦ (let all = rw e at h in let rest : filter p xs ≡ xs = ap (drop 1) all in rw e (ap (λ (r : List Numbered). (n, x) ∷ r) (filter_every p (suc n) xs rest)))
      | inr e ↦ absurd (let all = rw e at h in let long : length (filter p xs) ≡ suc (length xs) = ap length all in let short = filter_short p xs in omega (arith, long, short))
    ]

pub owned_numbered : (t : Tables) (names : Names) (lines pre : List Line) (l : Line) (own post : List Line) (keyed : Table) (column : ℕ) (owner : Table) → Plain t names lines keyed → Plain t names lines owner → lines ≡ pre ++ l ∷ (own ++ post) → is_in owner l ≡ true
    → (place_of keyed == place_of owner) ≡ false → AllOwned keyed column lines → NoneIn owner own → Apart keyed column owner post
    → owned names (behind (behind_all none pre) l) keyed column owner own ≡ written names (behind (behind_all none pre) l) own keyed
    → rows_of_owner t keyed column owner (suc (behind_all none pre owner)) ≡ numbered (suc (behind_all none pre keyed)) (map stated_row (written names (behind (behind_all none pre) l) own keyed))
owned_numbered t names lines pre l own post keyed column owner q q2 e g d o n a whole =
    let before : Counts = behind_all none pre in
    let after : Counts = behind before l in
    let here : after owner ≡ suc (before owner) = rw g refl in
    let all : AllOwned keyed column (pre ++ l ∷ (own ++ post)) = subst (AllOwned keyed column) e o in
    let of_pre = owned_front keyed column pre (l ∷ (own ++ post)) all in
    let of_rest = owned_back keyed column pre (l ∷ (own ++ post)) all in
    let of_own = owned_front keyed column own post of_rest.1 in
    let of_post = owned_back keyed column own post of_rest.1 in
    let test : List Value → Bool = leading column owner (suc (before owner)) in
    let w1 : List (List Value) = written names none pre keyed in
    let w2 : List (List Value) = written names after own keyed in
    let w3 : List (List Value) = written names (behind_all after own) post keyed in
    let first : filter test w1 ≡ [] = none_leads names none pre keyed column owner (suc (before owner)) of_pre (inl (omega arith)) in
    let mine0 : filter test w2 ≡ owned names after keyed column owner own = subst (λ (k : ℕ). filter (leading column owner k) w2 ≡ owned names after keyed column owner own) here (own_leads names after own keyed column owner of_own n) in
    let mine : filter test w2 ≡ w2 = mine0 ∙ whole in
    let still : behind_all after own owner ≡ suc (before owner) = behind-none after own owner n ∙ here in
    let others : filter test w3 ≡ [] = subst (λ (k : ℕ). filter (leading column owner k) w3 ≡ []) still (later_leads names (behind_all after own) post keyed column owner d of_post a) in
    let rows : written names none lines keyed ≡ w1 ++ (w2 ++ w3) =
    ap (λ (ls : List Line). written names none ls keyed) e ∙ written-append names none pre (l ∷ (own ++ post)) keyed ∙ ap (λ (r : List (List Value)). w1 ++ r) (rw (one_table l keyed owner d g) (written-append names after own post keyed)) in
    let p : Row → Bool = λ row. passes (leads owner (suc (before owner))) (cell row column) in
    let f1 : filter p (map stated_row w1) ≡ [] = filter-stated column owner (suc (before owner)) w1 ∙ ap (map stated_row) first in
    let f2 : filter p (map stated_row w2) ≡ map stated_row w2 = filter-stated column owner (suc (before owner)) w2 ∙ ap (map stated_row) mine in
    let f3 : filter p (map stated_row w3) ≡ [] = filter-stated column owner (suc (before owner)) w3 ∙ ap (map stated_row) others in
    let s1 : List Row = map stated_row w1 in
    let s2 : List Row = map stated_row w2 in
    let s3 : List Row = map stated_row w3 in
    let split : t.rows keyed ≡ s1 ++ (s2 ++ s3) = q.is ∙ ap (map stated_row) rows ∙ map-append stated_row w1 (w2 ++ w3) ∙ ap (λ (r : List Row). s1 ++ r) (map-append stated_row w2 w3) in
    let len : length s1 ≡ before keyed = length-front names pre keyed in
    let k : 1 + length s1 ≡ suc (before keyed) = omega (arith, len) in
    let pn : Numbered → Bool = λ r. p r.1 in
    let there = row_there t names lines pre l (own ++ post) owner q2 e g in
    let pieces = ap (λ (r : List Row). filter pn (numbered 1 r)) split ∙ ap (filter pn) (numbered-append 1 s1 (s2 ++ s3) ∙ ap (λ (r : List Numbered). numbered 1 s1 ++ r) (numbered-append (1 + length s1) s2 s3))
    ∙ filter-append pn (numbered 1 s1) (numbered (1 + length s1) s2 ++ numbered (1 + length s1 + length s2) s3)
    ∙ rw (filter_none p 1 s1 f1) (filter-append pn (numbered (1 + length s1) s2) (numbered (1 + length s1 + length s2) s3) ∙ rw (filter_every p (1 + length s1) s2 f2, filter_none p (1 + length s1 + length s2) s3 f3) (append-nil (numbered (1 + length s1) s2) ∙ ap (λ (m : ℕ). numbered m s2) k)) in
    rw there pieces

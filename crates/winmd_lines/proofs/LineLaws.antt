-- Where the rows of lines stand.
use Rattle.std.proofs.Common.{◌≡◌, ℕ, zero, suc, ◌+◌, ◌-◌, Bool, true, false, ltb, leb, List, [], ◌∷◌, ◌++◌, length, take, drop, map, get_or, Ok, refl, sym, ap, subst, ◌∙◌, append_assoc, arith, length-append, inl, inr}
use Rattle.std.specs.Prelude.{◌==◌, ◌⊎◌}
use Rattle.std.proofs.lemmas.Bool.{eqb-true, lt-ltb, le-ltb, le-leb}
use Rattle.std.proofs.lemmas.List.{take_at, drop_at, append-nil, length-map}
use Rattle.md_schema.specs.declared.table.Table.{Table}
use Rattle.md_schema.specs.declared.table.Table.TheVariants as tables
use Rattle.md_schema.specs.Schema.{all_tables, place_of}
use Rattle.md_schema.proofs.TablesLemmas.{place_is}
use Rattle.winmd_rows.specs.Values.{stated_row}
use Rattle.winmd_lines.specs.Lines.{Drawn, Number, Next, Line}
use Rattle.winmd_lines.specs.Names.{Names, Counts, none, is_in, behind, value_of, written}
use Rattle.winmd_lines.specs.Positions.{Plain, behind_all, cell_of, NoneIn, Carries}
use Rattle.winmd_lines.specs.Cells.{Row, Numbered, Tables, cell, numbered, row_at, row_in, list_from, list_of}

pub either : (d : Bool) → (d ≡ true) ⊎ (d ≡ false)
either true = inl refl
either false = inr refl

pub same_place : (a b : Table) → (place_of a == place_of b) ≡ true → a ≡ b
same_place a b h = sym (place_is a) ∙ ap (λ (n : ℕ). get_or all_tables n tables.Module) (eqb-true (place_of a) (place_of b) h) ∙ place_is b

pub written-append : (names : Names) (before : Counts) (xs ys : List Line) (table : Table)
    → written names before (xs ++ ys) table ≡ written names before xs table ++ written names (behind_all before xs) ys table
written-append names before [] ys table = refl
written-append names before (x ∷ xs) ys table =
    let rest = written-append names (behind before x) xs ys table in
    elim (either (is_in table x)) [
      | inl e ↦ rw (e, rest) refl
      | inr e ↦ rw (e, rest) refl
    ]

pub length-written : (names : Names) (before : Counts) (xs : List Line) (table : Table) → before table + length (written names before xs table) ≡ behind_all before xs table
length-written names before [] table = omega arith
length-written names before (x ∷ xs) table =
    let rest = length-written names (behind before x) xs table in
    elim (either (is_in table x)) [
      | inl e ↦ (let r = rw e at rest in rw e (omega (arith, r)))
      | inr e ↦ (let r = rw e at rest in rw e r)
    ]

-- all rows of a table up to a position
pub length-none : (names : Names) (pre : List Line) (table : Table) → length (written names none pre table) ≡ behind_all none pre table
length-none names pre table = let e = length-written names none pre table in omega (arith, e)

pub behind_all-append : (before : Counts) (xs ys : List Line) → behind_all before (xs ++ ys) ≡ behind_all (behind_all before xs) ys
behind_all-append before [] ys = refl
behind_all-append before (x ∷ xs) ys = behind_all-append (behind before x) xs ys

-- lines of other tables leave a count as it is
pub behind-none : (before : Counts) (own : List Line) (table : Table) → NoneIn table own → behind_all before own table ≡ before table
behind-none before [] table h = refl
behind-none before (l ∷ ls) table h = behind-none (behind before l) ls table h.1 ∙ rw h.0 refl

-- ---- numbered rows

drop-numbered : (k n : ℕ) (xs : List Row) → drop k (numbered n xs) ≡ numbered (n + k) (drop k xs)
drop-numbered zero n xs = ap (λ (m : ℕ). numbered m xs) (let e : n ≡ n + 0 = omega arith in e)
drop-numbered (suc k) n [] = refl
drop-numbered (suc k) n (x ∷ xs) = drop-numbered k (suc n) xs ∙ ap (λ (m : ℕ). numbered m (drop k xs)) (let e : suc n + k ≡ n + suc k = omega arith in e)

take-numbered : (k n : ℕ) (xs : List Row) → take k (numbered n xs) ≡ numbered n (take k xs)
take-numbered zero n xs = refl
take-numbered (suc k) n [] = refl
take-numbered (suc k) n (x ∷ xs) = ap (λ (r : List Numbered). (n, x) ∷ r) (take-numbered k (suc n) xs)

part-numbered : (front part back : List Row) (k o : ℕ) → length front ≡ o → length part ≡ k → take k (drop o (numbered 1 (front ++ (part ++ back)))) ≡ numbered (suc o) part
part-numbered front part back k o l p =
    let e : 1 + o ≡ suc o = omega arith in
    ap (take k) (drop-numbered o 1 (front ++ (part ++ back)) ∙ ap (λ (m : ℕ). numbered m (drop o (front ++ (part ++ back)))) e) ∙ take-numbered k (suc o) (drop o (front ++ (part ++ back)))
    ∙ ap (λ (xs : List Row). numbered (suc o) (take k xs)) (drop_at front (part ++ back) o l) ∙ ap (numbered (suc o)) (take_at part back k p)

-- ---- the tables of lines whose rows stand as they are written

pub map-append : {A B : Type 0} (f : A → B) (xs ys : List A) → map f (xs ++ ys) ≡ map f xs ++ map f ys
map-append f [] ys = refl
map-append f (x ∷ xs) ys = ap (λ r. f x ∷ r) (map-append f xs ys)

rows_split : (t : Tables) (names : Names) (lines pre post : List Line) (table : Table) → Plain t names lines table → lines ≡ pre ++ post
    → t.rows table ≡ map stated_row (written names none pre table) ++ map stated_row (written names (behind_all none pre) post table)
rows_split t names lines pre post table p e =
    p.is ∙ ap (λ (ls : List Line). map stated_row (written names none ls table)) e ∙ ap (map stated_row) (written-append names none pre post table)
    ∙ map-append stated_row (written names none pre table) (written names (behind_all none pre) post table)

pub length-front : (names : Names) (pre : List Line) (table : Table) → length (map stated_row (written names none pre table)) ≡ behind_all none pre table
length-front names pre table = length-map (written names none pre table) stated_row ∙ length-none names pre table

get_or-behind : {A : Type 0} (front : List A) (x : A) (back : List A) (n : ℕ) (d : A) → length front ≡ n → get_or (front ++ x ∷ back) n d ≡ x
get_or-behind [] x back zero d h = refl
get_or-behind [] x back (suc n) d h = absurd (omega (arith, h))
get_or-behind (y ∷ front) x back zero d h = absurd (omega (arith, h))
get_or-behind (y ∷ front) x back (suc n) d h = get_or-behind front x back n d (omega (arith, h))

abbrev pub row_of : Names → Counts → Line → Row
row_of names before l = stated_row (map (value_of names before) l.cells)

-- the row of a line, by its number
pub row_is : (t : Tables) (names : Names) (lines pre : List Line) (l : Line) (post : List Line) (table : Table) (offset : ℕ) → Plain t names lines table → lines ≡ pre ++ l ∷ post → is_in table l ≡ true
    → row_at t table (suc (behind_all none pre table)) offset ≡ Ok (row_of names (behind_all none pre) l)
row_is t names lines pre l post table offset p e h =
    let before : Counts = behind_all none pre in
    let front : List Row = map stated_row (written names none pre table) in
    let back : List Row = map stated_row (written names (behind before l) post table) in
    let rows : t.rows table ≡ front ++ row_of names before l ∷ back = rows_split t names lines pre (l ∷ post) table p e ∙ rw h refl in
    let len : length front ≡ before table = length-front names pre table in
    let total : length (front ++ row_of names before l ∷ back) ≡ before table + suc (length back) = length-append front (row_of names before l ∷ back) ∙ ap (λ (n : ℕ). n + suc (length back)) len in
    let one : leb 1 (suc (before table)) ≡ true = le-leb _ _ (omega arith) in
    let in_range : leb (suc (before table)) (length (front ++ row_of names before l ∷ back)) ≡ true = le-leb _ _ (omega (arith, total)) in
    let k : suc (before table) - 1 ≡ before table = omega arith in
    rw (rows, one, in_range, k, get_or-behind front (row_of names before l) back (before table) [] len) refl

-- what a cell of the row of a line says
pub cell_is : (names : Names) (before : Counts) (cells : List Drawn) (column : ℕ) → cell (stated_row (map (value_of names before) cells)) column ≡ Ok (value_of names before (get_or cells column (Number 0)))
cell_is names before [] column = refl
cell_is names before (c ∷ cells) zero = refl
cell_is names before (c ∷ cells) (suc column) = cell_is names before cells column

-- ---- lists

from_is : (t : Tables) (names : Names) (lines pre : List Line) (l : Line) (post : List Line) (table : Table) (column : ℕ) (member : Table) → Plain t names lines table → lines ≡ pre ++ l ∷ post → is_in table l ≡ true
    → list_from t table column member (suc (behind_all none pre table)) ≡ row_in (row_of names (behind_all none pre) l) column
from_is t names lines pre l post table column member p e h =
    let before : Counts = behind_all none pre in
    let front : List Row = map stated_row (written names none pre table) in
    let back : List Row = map stated_row (written names (behind before l) post table) in
    let rows : t.rows table ≡ front ++ row_of names before l ∷ back = rows_split t names lines pre (l ∷ post) table p e ∙ rw h refl in
    let len : length front ≡ before table = length-front names pre table in
    let total : length (front ++ row_of names before l ∷ back) ≡ before table + suc (length back) = length-append front (row_of names before l ∷ back) ∙ ap (λ (n : ℕ). n + suc (length back)) len in
    let in_range : ltb (length (front ++ row_of names before l ∷ back)) (suc (before table)) ≡ false = le-ltb _ _ (omega (arith, total)) in
    let k : suc (before table) - 1 ≡ before table = omega arith in
    rw (rows, in_range, k, get_or-behind front (row_of names before l) back (before table) [] len) refl

next_is : (names : Names) (before : Counts) (l : Line) (column : ℕ) (member : Table) → cell_of l column ≡ Next member → row_in (row_of names before l) column ≡ Ok (suc (before member))
next_is names before l column member h = rw (cell_is names before l.cells column, h) refl

-- The list of the next row of a table begins where the members behind the position begin.
end_is : (t : Tables) (names : Names) (lines pre post : List Line) (table : Table) (column : ℕ) (member : Table) → Plain t names lines table → Plain t names lines member → lines ≡ pre ++ post → Carries table column member post
    → list_from t table column member (suc (behind_all none pre table)) ≡ Ok (suc (behind_all none pre member))
end_is t names lines pre [] table column member p q e c =
    let all : lines ≡ pre = e ∙ append-nil pre in
    let len : length (t.rows table) ≡ behind_all none pre table = ap length (p.is ∙ ap (λ (ls : List Line). map stated_row (written names none ls table)) all) ∙ length-front names pre table in
    let many : length (t.rows member) ≡ behind_all none pre member = ap length (q.is ∙ ap (λ (ls : List Line). map stated_row (written names none ls member)) all) ∙ length-front names pre member in
    let past : ltb (length (t.rows table)) (suc (behind_all none pre table)) ≡ true = lt-ltb _ _ (omega (arith, len)) in
    rw (past, many) refl
end_is t names lines pre (l ∷ ls) table column member p q e c =
    elim (either (is_in table l)) [
      | inl h ↦
          let next : cell_of l column ≡ Next member = rw h at c in
          from_is t names lines pre l ls table column member p e h ∙ next_is names (behind_all none pre) l column member next
      | inr h ↦
          let rest = rw h at c in
          let split : lines ≡ (pre ++ l ∷ []) ++ ls = e ∙ sym (append_assoc pre (l ∷ []) ls) in
          let later = end_is t names lines (pre ++ l ∷ []) ls table column member p q split rest.1 in
          let at_table : behind_all none (pre ++ l ∷ []) table ≡ behind_all none pre table = rw (behind_all-append none pre (l ∷ [])) (rw h refl) in
          let at_member : behind_all none (pre ++ l ∷ []) member ≡ behind_all none pre member = rw (behind_all-append none pre (l ∷ [])) (rw rest.0 refl) in
          subst (λ (n : ℕ). list_from t table column member (suc n) ≡ Ok (suc (behind_all none pre member))) at_table (later ∙ ap (λ (n : ℕ). Ok (suc n)) at_member)
    ]

-- The list of a line is what is written for it.
pub list_is : (t : Tables) (names : Names) (lines pre : List Line) (l : Line) (own post : List Line) (table : Table) (column : ℕ) (member : Table) → Plain t names lines table → Plain t names lines member
    → lines ≡ pre ++ l ∷ (own ++ post) → is_in table l ≡ true → is_in member l ≡ false → cell_of l column ≡ Next member → NoneIn table own → Carries table column member post
    → list_of t table column member (suc (behind_all none pre table))
    ≡ Ok (numbered (suc (behind_all none pre member)) (map stated_row (written names (behind (behind_all none pre) l) own member)))
list_is t names lines pre l own post table column member p q e h g next n c =
    let before : Counts = behind_all none pre in
    let after : Counts = behind before l in
    let split : lines ≡ (pre ++ l ∷ own) ++ post = e ∙ sym (append_assoc pre (l ∷ own) post) in
    let first : list_from t table column member (suc (before table)) ≡ Ok (suc (before member)) = from_is t names lines pre l (own ++ post) table column member p e h ∙ next_is names before l column member next in
    let at_end : behind_all none (pre ++ l ∷ own) ≡ behind_all after own = behind_all-append none pre (l ∷ own) in
    let owner_end : behind_all after own table ≡ suc (before table) = behind-none after own table n ∙ rw h refl in
    let member_now : after member ≡ before member = rw g refl in
    let len : before member + length (written names after own member) ≡ behind_all after own member = ap (λ (k : ℕ). k + length (written names after own member)) (sym member_now) ∙ length-written names after own member in
    let end0 = end_is t names lines (pre ++ l ∷ own) post table column member p q split c in
    let end : list_from t table column member (suc (suc (before table))) ≡ Ok (suc (behind_all after own member)) =
    subst (λ (k : ℕ). list_from t table column member (suc k) ≡ Ok (suc (behind_all after own member))) owner_end (subst (λ (b : Counts). list_from t table column member (suc (b table)) ≡ Ok (suc (b member))) at_end end0) in
    let front : List Row = map stated_row (written names none pre member) in
    let part : List Row = map stated_row (written names after own member) in
    let back : List Row = map stated_row (written names (behind_all after own) post member) in
    let rows : t.rows member ≡ front ++ (part ++ back) =
    rows_split t names lines pre (l ∷ (own ++ post)) member q e ∙ ap (λ (r : List Row). front ++ r) (rw g (ap (map stated_row) (written-append names after own post member) ∙ map-append stated_row (written names after own member) (written names (behind_all after own) post member))) in
    let o : suc (before member) - 1 ≡ before member = omega arith in
    let size : suc (behind_all after own member) - suc (before member) ≡ length part = omega (arith, len, length-map (written names after own member) stated_row) in
    let cut = part-numbered front part back (length part) (before member) (length-front names pre member) refl in
    rw (first, end, o, size, rows, cut) refl

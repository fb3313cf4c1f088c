-- What the laws say of lines: which lists of rows they begin, and to whom their rows belong.
use Rattle.std.specs.Prelude.{◌≡◌, ℕ, ◌==◌, ◌&&◌, Bool, true, false, List, [], ◌∷◌, map, get_or, ⊤, if◌then◌else◌}
use Rattle.md_schema.specs.declared.table.Table.{Table}
use Rattle.md_schema.specs.Schema.{place_of}
use Rattle.winmd_rows.specs.Values.{Value, stated_row}
use Rattle.winmd_lines.specs.Cells.{Tables}
use Rattle.winmd_lines.specs.Lines.{Drawn, Number, Last, Next, Line}
use Rattle.winmd_lines.specs.Names.{Names, Counts, none, is_in, behind, value_of, written}

-- how many rows stand in each table behind lines
abbrev pub behind_all : Counts → List Line → Counts
behind_all before [] = before
behind_all before (l ∷ ls) = behind_all (behind before l) ls

abbrev pub cell_of : Line → ℕ → Drawn
cell_of l column = get_or l.cells column (Number 0)

abbrev pub choose : Bool → Type 0 → Type 0 → Type 0
choose true A B = A
choose false A B = B

-- no line of a table
abbrev pub NoneIn : Table → List Line → Type 0
NoneIn table [] = ⊤
NoneIn table (l ∷ ls) = (is_in table l ≡ false) × NoneIn table ls

-- The first line of the table begins its list of members where it stands, and no member stands before it.
abbrev pub Carries : Table → ℕ → Table → List Line → Type 0
Carries table column member [] = ⊤
Carries table column member (l ∷ ls) = choose (is_in table l) (cell_of l column ≡ Next member) ((is_in member l ≡ false) × Carries table column member ls)

-- a cell that leads to the last row of a table
abbrev pub is_last : Table → Drawn → Bool
is_last table (Last other) = place_of table == place_of other
is_last table _ = false

abbrev pub belongs : Table → ℕ → Table → Line → Bool
belongs keyed column owner l = is_in keyed l && is_last owner (cell_of l column)

-- Before the first line of the owner's table no line belongs to one.
abbrev pub Apart : Table → ℕ → Table → List Line → Type 0
Apart keyed column owner [] = ⊤
Apart keyed column owner (l ∷ ls) = choose (is_in owner l) ⊤ ((belongs keyed column owner l ≡ false) × Apart keyed column owner ls)

-- each line of the table leads to the last row of some table
pub data IsLast : Drawn → Type 0 where
  last : (table : Table) → IsLast (Last table)

abbrev pub AllOwned : Table → ℕ → List Line → Type 0
AllOwned keyed column [] = ⊤
AllOwned keyed column (l ∷ ls) = choose (is_in keyed l) (IsLast (cell_of l column)) ⊤ × AllOwned keyed column ls

-- the rows of lines that belong to the last row of a table
abbrev pub owned : Names → Counts → Table → ℕ → Table → List Line → List (List Value)
owned names before keyed column owner [] = []
owned names before keyed column owner (l ∷ ls) =
    if belongs keyed column owner l then map (value_of names before) l.cells ∷ owned names (behind before l) keyed column owner ls else owned names (behind before l) keyed column owner ls

-- the rows of a table are those of lines, as they are written
pub record Plain (t : Tables) (names : Names) (lines : List Line) (table : Table) : Type 0 where
  pub is : t.rows table ≡ map stated_row (written names none lines table)

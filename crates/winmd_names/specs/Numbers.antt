-- The numbers of names, by the rows in which they stand.
use Rattle.std.specs.Prelude.{ℕ, suc, ◌&&◌, not, bytes_eq, List, [], ◌∷◌, if◌then◌else◌}
use Rattle.md_schema.specs.declared.table.Table.{Table}
use Rattle.md_schema.specs.declared.table.Table.TheVariants as tables
use Rattle.winmd_rows.specs.Values.{To}
use Rattle.winmd_lines.specs.Names.{code_of_value, is_outside}

-- the TypeDefOrRef of a row
abbrev pub row_code : Table → ℕ → ℕ
row_code table row = code_of_value (To table row)

-- The number of a name: that of the first of the names that it is, which stand in the rows from one on; else the number that it has already.
abbrev pub ref_number : ℕ → List (List ℕ) → List ℕ → ℕ → ℕ
ref_number row [] full other = other
ref_number row (n ∷ ns) full other = if bytes_eq full n then row_code tables.TypeRef row else ref_number (suc row) ns full other

-- the same of declared names, without those that are named by TypeRefs
abbrev pub def_number : ℕ → List (List ℕ) → List ℕ → ℕ → ℕ
def_number row [] full other = other
def_number row (n ∷ ns) full other = if bytes_eq full n && not (is_outside n) then row_code tables.TypeDef row else def_number (suc row) ns full other

-- What is wrong with a stream of tables (ECMA-335 II.24.2.6, II.22), if something is: the first of these.
use Rattle.std.specs.Prelude.{ℕ, zero, suc, ◌+◌, ◌*◌, ◌&&◌, ◌||◌, not, List, [], ◌∷◌, length, take, get_or, nat_lt, Option, Some, None, Bool, is_some, option_map, if◌then◌else◌}
use Rattle.md_bytes.specs.Bytes.{total}
use Rattle.md_schema.specs.declared.table.Table.TheVariants as tables
use Rattle.md_schema.specs.declared.sizes.Sizes.{Sizes}
use Rattle.md_schema.specs.declared.faults.ImageFault.{ImageFault}
use Rattle.md_schema.specs.declared.faults.ImageKind.TheVariants as kinds
use Rattle.md_schema.specs.Faults.{fault_at}
use Rattle.md_schema.specs.Tables.{has_bit, valid_of, sizes_of, rows_from, rows_end, table_start, row_width, widths_of, raw}
use Rattle.md_tables.specs.declared.lists.RowList.{RowList}
use Rattle.md_tables.specs.Numbers.{Rows, is_known}

-- the first of so many numbers from n on that passes
unfoldable pub first_from : (ℕ → Bool) → ℕ → ℕ → Option ℕ
first_from passes n zero = None
first_from passes n (suc k) = if passes n then Some n else first_from passes (suc n) k

-- ---- the header

-- a bit of Valid is that of no table
abbrev pub is_unknown : ℕ → ℕ → Bool
is_unknown valid n = has_bit valid n && not (is_known n)

abbrev pub has_unknown : ℕ → Bool
has_unknown valid = is_some (first_from (is_unknown valid) 0 64)

-- ---- lists of rows

-- Where the list of a row begins in another table: the number in a column. It ends where the next row's begins, and the last one with its table.
abbrev pub list_begin : List (List ℕ) → ℕ → ℕ → ℕ
list_begin rows column row = get_or (get_or rows row []) column 0

abbrev pub list_end : List (List ℕ) → ℕ → ℕ → ℕ → ℕ
list_end rows column members row = if nat_lt (suc row) (length rows) then list_begin rows column (suc row) else suc members

-- It runs backwards, or past the end of its table, which has so many members.
abbrev pub is_disordered : List (List ℕ) → ℕ → ℕ → ℕ → Bool
is_disordered rows column members row = nat_lt (list_end rows column members row) (list_begin rows column row) || nat_lt (suc members) (list_end rows column members row)

-- the first row whose list does
abbrev pub disordered_row : List (List ℕ) → ℕ → ℕ → Option ℕ
disordered_row rows column members = first_from (is_disordered rows column members) 0 (length rows)

-- The columns that are lists: fields and methods of a type, parameters of a method, events and properties of a type.
abbrev pub row_lists : List RowList
row_lists =
    (record { owner = tables.TypeDef; column = 4; member = tables.Field }) ∷ (record { owner = tables.TypeDef; column = 5; member = tables.MethodDef })
    ∷ (record { owner = tables.MethodDef; column = 5; member = tables.Param }) ∷ (record { owner = tables.EventMap; column = 1; member = tables.Event })
    ∷ (record { owner = tables.PropertyMap; column = 1; member = tables.Property }) ∷ []

abbrev pub or_else : {A : Type 0} → Option A → Option A → Option A
or_else None other = other
or_else (Some x) other = Some x

-- the first row whose list of this kind does
abbrev pub disordered_in : Rows → RowList → Option ℕ
disordered_in rows list = disordered_row (rows list.owner) list.column (length (rows list.member))

-- the first of several lists in which a row's list is disordered, and the row
unfoldable pub disorder : Rows → List RowList → Option (RowList × ℕ)
disorder rows [] = None
disorder rows (list ∷ lists) = or_else (option_map (λ row. (list, row)) (disordered_in rows list)) (disorder rows lists)

-- ---- the stream

-- where the cell of a list stands, by the sizes and the offset of the first row
abbrev pub list_place : Sizes → ℕ → RowList → ℕ → ℕ
list_place sizes from list row = from + table_start sizes list.owner + row * row_width sizes list.owner + total (take list.column (widths_of sizes list.owner))

abbrev pub list_fault : List ℕ → Option ImageFault
list_fault bytes = option_map (λ found. fault_at kinds.ListOrder (list_place (sizes_of bytes) (rows_from bytes) found.0 found.1)) (disorder (raw bytes) row_lists)

-- The header is cut, Valid has a bit of no table, or the rows end past the stream.
abbrev pub header_fault : List ℕ → Option ImageFault
header_fault bytes =
    if nat_lt (length bytes) 24 then Some (fault_at kinds.ShortTable (length bytes))
    else if has_unknown (valid_of bytes) then Some (fault_at kinds.UnknownTable 8)
    else if nat_lt (length bytes) (rows_end bytes) then Some (fault_at kinds.ShortTable (length bytes))
    else None

abbrev pub fault_of : List ℕ → Option ImageFault
fault_of bytes = or_else (header_fault bytes) (list_fault bytes)

-- The found types, all in Windows.Foundation (Windows Runtime type system).
use Rattle.std.specs.Prelude.{ℕ, Bool, List, [], ◌∷◌, ◌++◌, Option, Some, None, codes, if◌then◌else◌}
use Rattle.std.specs.List.{list_any}
use Rattle.std.specs.Str.{bytes_eq}
use Rattle.wr_base.specs.Lower.{lower}
use Rattle.wr_base.specs.declared.type_use.Base.TheVariants as bases
use Rattle.found_table.specs.Found.{FoundUseRow, FoundPartRow, FoundMemberRow, FoundRow}

-- the name of a type of Windows.Foundation
abbrev pub foundation : List ℕ → List ℕ
foundation name = codes "Windows.Foundation." ++ name

abbrev pub part : List ℕ → FoundUseRow → FoundPartRow
part name type_ = record { name = name; type_ = type_ }

-- a struct with one field of 64 bits
abbrev pub of_number : List ℕ → List ℕ → FoundRow
of_number name field = FoundRow.Struct (foundation name) (part field (FoundUseRow.Plain bases.I64) ∷ [])

abbrev pub table : List FoundRow
table =
    of_number (codes "EventRegistrationToken") (codes "Value")
    ∷ of_number (codes "DateTime") (codes "UniversalTime")
    ∷ of_number (codes "TimeSpan") (codes "Duration")
    ∷ FoundRow.Interface (foundation (codes "IClosable")) 0 0x30d5a8297fa4402683bbd75bae4ea99e (FoundMemberRow.Method (codes "Close") None ∷ [])
    ∷ FoundRow.Interface (foundation (codes "IStringable")) 0 0x96369f548eb648f0abcec1b211e627c3
    (FoundMemberRow.Method (codes "ToString") (Some (FoundUseRow.Plain bases.Text)) ∷ [])
    ∷ FoundRow.Interface (foundation (codes "IReference")) 1 0x61c177062d6511e09ae8d48564015472
    (FoundMemberRow.Property (codes "Value") (FoundUseRow.Argument 0) ∷ [])
    ∷ FoundRow.Delegate (foundation (codes "EventHandler")) 1 0x9de1c5356ae111e084e118a905bcc53f
    (part (codes "sender") (FoundUseRow.Plain bases.Object) ∷ part (codes "args") (FoundUseRow.Argument 0) ∷ [])
    ∷ FoundRow.Delegate (foundation (codes "TypedEventHandler")) 2 0x9de1c5346ae111e084e118a905bcc53f
    (part (codes "sender") (FoundUseRow.Argument 0) ∷ part (codes "args") (FoundUseRow.Argument 1) ∷ [])
    ∷ []

abbrev pub name_of : FoundRow → List ℕ
name_of (FoundRow.Struct name fields) = name
name_of (FoundRow.Interface name arguments id members) = name
name_of (FoundRow.Delegate name arguments id params) = name

-- the row of this name
abbrev pub row_of : List FoundRow → List ℕ → Option FoundRow
row_of [] name = None
row_of (row ∷ rows) name = if bytes_eq name (name_of row) then Some row else row_of rows name

-- the found type of this full name
abbrev pub builtin : List ℕ → Option FoundRow
builtin name = row_of table name

-- a found type has this full name, but for ASCII case
unfoldable pub is_found : List ℕ → Bool
is_found name = list_any (λ row. bytes_eq (lower name) (lower (name_of row))) table

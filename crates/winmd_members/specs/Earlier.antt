-- How often names stand among those of earlier methods.
use Rattle.std.specs.Prelude.{◌≡◌, ℕ, Bool, List, [], String, Result, Ok}
use Rattle.std.specs.BTreeMap.{BTreeMap, get_by_text}
use Rattle.std.specs.Option.{unwrap_or}
use Rattle.md_schema.specs.declared.table.Table.TheVariants as tables
use Rattle.winmd_rows.specs.Faults.{Fault, ◌>>=◌}
use Rattle.winmd_lines.specs.Cells.{Numbered, Tables, at, bytes_in, name_in}
use Rattle.winmd_sets.specs.Blobs.{property_of}
use Rattle.winmd_sets.specs.Interfaces.{Item, OfMethod, OfProperty, OfEvent, abi_of, member_of, numbered_name, times}
use Rattle.winmd_sets.specs.Methods.{signature_of}
use Rattle.wr_base.specs.Trees.{MemberTree, UseTree, method, property}

-- the count of a name, which is 0 where the map lacks it
abbrev pub count_at : {Y : Type 0} → BTreeMap (String Y) ℕ → List ℕ → ℕ
count_at counts text = unwrap_or (get_by_text counts text) 0

-- The map counts these names.
abbrev pub Counts : {Y : Type 0} → BTreeMap (String Y) ℕ → List (List ℕ) → Type 0
Counts counts names = (text : List ℕ) → count_at counts text ≡ times text names

-- the type of a property
abbrev pub property_type : Tables → Numbered → Result UseTree Fault
property_type t row = bytes_in row.1 2 >>= λ blob. property_of t (at t tables.Property row.0 2) blob

abbrev pub property_by : Tables → Numbered → Bool → Result MemberTree Fault
property_by t row put = do
  name ← name_in t tables.Property row 1
  kind ← property_type t row
  Ok (property name kind put)

-- the member of an item, by the counts of the names of earlier methods
abbrev pub member_by : Tables → (List ℕ → ℕ) → Item → Result MemberTree Fault
member_by t count (OfMethod row) = do
  name ← name_in t tables.MethodDef row 3
  abi ← abi_of t row (numbered_name name (count name))
  sig ← signature_of t row
  Ok (method name abi sig)
member_by t count (OfProperty row put) = property_by t row put
member_by t count (OfEvent row) = member_of t [] (OfEvent row)

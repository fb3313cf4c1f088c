-- The interfaces of a type, and what is read of them and behind them.
use Rattle.std.specs.Prelude.{ℕ, List, map, Option, Result, Ok}
use Rattle.md_schema.specs.declared.table.Table.TheVariants as tables
use Rattle.winmd_rows.specs.Faults.{Fault, ◌>>=◌}
use Rattle.winmd_lines.specs.Cells.{Numbered, Tables}
use Rattle.winmd_lines.specs.Orders.{set_by}
use Rattle.winmd_sets.specs.Classes.{default_of}
use Rattle.winmd_sets.specs.Interfaces.{interfaces_of, members_in}
use Rattle.winmd_sets.specs.Uses.{use_in}
use Rattle.wr_base.specs.Trees.{UseTree, text_of_tree, MemberTree, DeclTree, interface}

-- a row of InterfaceImpl, and the interface that it names (ECMA-335 II.22.23)
abbrev pub implemented_in : Tables → Numbered → Result (ℕ × UseTree) Fault
implemented_in t row = use_in t tables.InterfaceImpl row 1 >>= λ use_. Ok (row.0, use_)

abbrev pub types_in : List (ℕ × UseTree) → List UseTree
types_in interfaces = map (λ entry. entry.1) interfaces

-- what an interface requires, in the order of rows, and its members
abbrev pub parts_in : Tables → ℕ → Result (List UseTree × List MemberTree) Fault
parts_in t n = do
  interfaces ← interfaces_of t n
  members ← members_in t n
  Ok (types_in interfaces, members)

-- an interface of these parts; what it requires in the order of texts
abbrev pub interface_with : List ℕ → ℕ → ℕ → Option (List ℕ) → List UseTree × List MemberTree → DeclTree
interface_with full version id owner parts = interface full version id owner (set_by text_of_tree parts.0) parts.1

-- the default interface of a class, and its interfaces in the order of rows
abbrev pub has_in : Tables → ℕ → Result (Option UseTree × List UseTree) Fault
has_in t n = do
  interfaces ← interfaces_of t n
  default ← default_of t n interfaces
  Ok (default, types_in interfaces)

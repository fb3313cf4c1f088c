-- The item at the front of methods with their roles, and the methods behind it.
use Rattle.std.specs.Prelude.{ℕ, ◌==◌, true, false, List, ◌∷◌, Result, Ok, if◌then◌else◌}
use Rattle.md_schema.specs.declared.table.Table.TheVariants as tables
use Rattle.md_schema.specs.declared.faults.ImageKind.TheVariants.{BadShape}
use Rattle.winmd_rows.specs.Faults.{Fault, fault}
use Rattle.winmd_lines.specs.Cells.{Numbered, Tables, at}
use Rattle.winmd_sets.specs.Interfaces.{Role, Method, Getter, Setter, Adder, Remover, Item, OfMethod, OfProperty, OfEvent}

abbrev pub Next : Type 0
Next = Result (Item × List (Role × Numbered)) Fault

-- behind the getter of a property
abbrev pub behind_getter : Tables → Numbered → List (Role × Numbered) → Next
behind_getter t p ((Setter q, n) ∷ rest) = if p.0 == q.0 then Ok (OfProperty p true, rest) else fault BadShape (at t tables.MethodDef n.0 0)
behind_getter t p rest = Ok (OfProperty p false, rest)

-- behind the adder of an event, a method at an offset
abbrev pub behind_adder : Tables → ℕ → Numbered → List (Role × Numbered) → Next
behind_adder t offset p ((Remover q, n) ∷ rest) = if p.0 == q.0 then Ok (OfEvent p, rest) else fault BadShape offset
behind_adder t offset p rest = fault BadShape offset

abbrev pub next_of : Tables → Role × Numbered → List (Role × Numbered) → Next
next_of t (Method, m) rest = Ok (OfMethod m, rest)
next_of t (Getter p, m) rest = behind_getter t p rest
next_of t (Adder p, m) rest = behind_adder t (at t tables.MethodDef m.0 0) p rest
next_of t (Setter p, m) rest = fault BadShape (at t tables.MethodDef m.0 0)
next_of t (Remover p, m) rest = fault BadShape (at t tables.MethodDef m.0 0)

-- The lines in which rows are written: a row's table, and what its cells say before it is known where rows, types, constructors and heap entries stand.
use Rattle.std.specs.Prelude.{ℕ, List}
use Rattle.md_schema.specs.declared.table.Table.{Table}
use Rattle.wr_base.specs.Trees.{UseTree, SignatureTree}
use Rattle.winmd_lines.specs.Makers.{Maker}

pub data Drawn : Type 0 where
  Number : ℕ → Drawn
  Words : List ℕ → Drawn
  Bytes : List ℕ → Drawn
  Guid : ℕ → Drawn
  -- a row by its number; the last row of a table so far; its next row, where a list begins
  To : Table → ℕ → Drawn
  Last : Table → Drawn
  Next : Table → Drawn
  -- a type, by a TypeDefOrRef; a constructor; a blob that spells a type or a signature
  Type_ : UseTree → Drawn
  MadeBy : Maker → Drawn
  OfField : UseTree → Drawn
  OfProperty : UseTree → Drawn
  OfMethod : SignatureTree → Drawn
  OfSpec : UseTree → Drawn

pub record Line : Type 0 where
  pub table : Table
  pub cells : List Drawn

abbrev pub line : Table → List Drawn → Line
line table cells = record { table = table; cells = cells }

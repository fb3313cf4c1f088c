-- Rows that grow by lines, as winmd_lines draws them.
use Rattle.std.specs.Prelude.{List, [], ◌∷◌, ◌++◌, map, if◌then◌else◌}
use Rattle.winmd_lines.specs.Lines.{Line}
use Rattle.winmd_lines.specs.Names.{Names, is_in, value_of}
use Rattle.row_writer.specs.Known.{Values}
use Rattle.row_writer.specs.Lines.{counts}

-- a line more
abbrev pub with_line : Names → Line → Values → Values
with_line names l rows table = if is_in table l then rows table ++ map (value_of names (counts rows)) l.cells ∷ [] else rows table

-- lines more, one after the other
abbrev pub with_lines : Names → List Line → Values → Values
with_lines names [] rows = rows
with_lines names (l ∷ ls) rows = with_lines names ls (with_line names l rows)

-- Full names in two parts.
use Rattle.std.specs.Prelude.{ℕ, List}
use Rattle.winmd_lines.specs.Cells.{joined}
use Rattle.winmd_cells.specs.declared.names.TypeName.{TypeName}

-- a namespace and a name, with a dot between them where there is a namespace
abbrev pub full_seen : TypeName → List ℕ
full_seen name = joined name.space.now name.name.now

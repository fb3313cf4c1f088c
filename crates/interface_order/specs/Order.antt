-- Interfaces, with the numbers that their order goes by.
use Rattle.std.specs.Prelude.{ℕ}
use Rattle.winmd_lines.specs.Names.{Names, code_of_value, type_value}
use Rattle.wr_base.specs.Trees.{tree_of}
use Rattle.wr_base.specs.declared.type_use.TypeUse.{TypeUse}
use Rattle.interface_order.specs.declared.order.Placed.{Placed}

-- the TypeDefOrRef of a use (II.24.2.6)
abbrev pub number_of : Names → TypeUse → ℕ
number_of names ty = code_of_value (type_value names (tree_of ty))

-- a use with its number
abbrev pub placed_of : Names → TypeUse → Placed
placed_of names ty = record { number = number_of names ty; ty = ty }

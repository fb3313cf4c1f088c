use Rattle.std.proofs.Common.{take}
use Rattle.std.specs.List.{All}
use Rattle.writable_sets.specs.Stated.{HasWidths}
use Rattle.writable_sets.proofs.widths.have_widths.Given as goal

abbrev pub invariant-loop-declaration : goal.invariant-loop-declaration
invariant-loop-declaration l = All HasWidths (take l.declaration-index l.types)

use Rattle.std.specs.Prelude.{◌≡◌, map, take}
use Rattle.kind_rows.specs.Makers as rows
use Rattle.winmd_uses.specs.Makers as uses
use Rattle.winmd_write.proofs.makers.row_makers.Given as goal

abbrev pub invariant-loop-maker : goal.invariant-loop-maker
invariant-loop-maker l = map rows.maker_of l.all.items ≡ map uses.maker_of (take l.maker-index l.makers)

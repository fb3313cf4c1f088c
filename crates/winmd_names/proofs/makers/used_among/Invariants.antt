use Rattle.std.proofs.Common.{◌≡◌, ◌≤◌, map, take, length}
use Rattle.std.specs.List.{filter}
use Rattle.winmd_uses.specs.Makers.{maker_of}
use Rattle.winmd_uses.specs.Takes.{has_maker}
use Rattle.winmd_names.proofs.makers.used_among.Given as goal

abbrev pub invariant-loop-maker : goal.invariant-loop-maker
invariant-loop-maker l = (map maker_of l.makers.items ≡ filter (has_maker l.used) (map maker_of (take l.maker-index l.all))) × (length l.makers.items ≤ l.maker-index)

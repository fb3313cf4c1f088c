use Rattle.std.proofs.Common.{◌≡◌, ◌+◌, map, drop}
use Rattle.winmd_lines.specs.Names.{is_maker, place}
use Rattle.winmd_uses.specs.Makers.{maker_of}
use Rattle.winmd_names.proofs.makers.place_of.Given as goal

abbrev pub invariant-loop-i : goal.invariant-loop-i
invariant-loop-i l = l.i + place (is_maker (maker_of l.maker)) (map maker_of (drop l.i l.makers)) ≡ place (is_maker (maker_of l.maker)) (map maker_of l.makers)

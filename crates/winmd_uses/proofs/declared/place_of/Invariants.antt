use Rattle.std.proofs.Common.{◌-◌, ◌≡◌, ◌≤◌, false, drop, length, map, take}
use Rattle.std.specs.List.{list_any}
use Rattle.std.specs.Str.{bytes_eq}
use Rattle.wr_base.specs.Declarations.{name_of}
use Rattle.winmd_uses.proofs.declared.place_of.Given as goal

abbrev pub invariant-loop-low : goal.invariant-loop-low
invariant-loop-low l =
    (l.low ≤ l.high) × (l.high ≤ length l.types) × (list_any (bytes_eq l.name) (take l.low (map name_of l.types)) ≡ false) × (list_any (bytes_eq l.name) (drop l.high (map name_of l.types)) ≡ false)

abbrev pub decreases-loop-low : goal.decreases-loop-low
decreases-loop-low l = l.high - l.low

use Rattle.std.proofs.Common.{◌≡◌, take}
use Rattle.wr_base.specs.Places.{plain_from, total}
use Rattle.wr_base.proofs.places.Listed+DeclPlaces.plain.Given as goal

abbrev pub invariant-loop-i : goal.invariant-loop-i
invariant-loop-i l = record {
  places : l.places ≡ plain_from 0 (take l.i l.types);
  next : l.next ≡ total (take l.i l.types);
}

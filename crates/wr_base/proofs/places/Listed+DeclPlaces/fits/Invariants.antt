use Rattle.std.proofs.Common.{◌≡◌, ◌<◌, ◌^◌, take}
use Rattle.wr_base.specs.Places.{total}
use Rattle.wr_base.proofs.places.Listed+DeclPlaces.fits.Given as goal

abbrev pub invariant-loop-i : goal.invariant-loop-i
invariant-loop-i l = record {
  next : l.next ≡ total (take l.i l.types);
  small : l.next < 2 ^ 32;
}

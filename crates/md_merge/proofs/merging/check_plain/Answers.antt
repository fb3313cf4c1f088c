use Rattle.std.proofs.Common.{List, subst, sym}
use Rattle.place_laws.specs.Shapes.{FitPlaces}
use Rattle.place_laws.proofs.AllMoves.{plain_fits}
use Rattle.wr_base.specs.declared.places.DeclPlaces.{DeclPlaces}
use Rattle.md_merge.proofs.merging.check_plain.Goals as goal

pub check-requires-clause-places : goal.check-requires-clause-places
check-requires-clause-places c = subst (λ (places : List DeclPlaces). FitPlaces c.args.types places) (sym c.in_ok-places.ensures) (plain_fits 0 c.args.types)

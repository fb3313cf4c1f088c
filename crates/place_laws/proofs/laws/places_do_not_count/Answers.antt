use Rattle.place_laws.proofs.AllMoves.{clear_anywhere}
use Rattle.place_laws.proofs.laws.places_do_not_count.Goals as goal

pub returns : goal.returns
returns c = clear_anywhere

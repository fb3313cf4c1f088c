use Rattle.wr_base.specs.Places.{plain_from}
use Rattle.place_laws.proofs.AllMoves.{clear_anywhere, plain_fits}
use Rattle.place_laws.proofs.laws.accepted_anywhere.Goals as goal

pub returns-clause-clear : goal.returns-clause-clear
returns-clause-clear c = λ types places fit accepted. clear_anywhere types (plain_from 0 types) places (plain_fits 0 types) fit accepted.clear

pub returns-clause-accepted : goal.returns-clause-accepted
returns-clause-accepted c = λ types places fit proper clear. record { proper = proper; clear = clear_anywhere types places (plain_from 0 types) fit (plain_fits 0 types) clear }

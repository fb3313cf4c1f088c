-- What was read of a list, and what reading the others gives.
use Rattle.std.specs.Prelude.{ℕ, List, ◌++◌, Result, Ok}
use Rattle.sig_blobs.specs.declared.flaw.Flaw.{Flaw}
use Rattle.sig_blobs.specs.Reading.{◌>>=◌}

abbrev pub behind : {A : Type 0} → List A → Result (List A × List ℕ) Flaw → Result (List A × List ℕ) Flaw
behind front answer = answer >>= λ x. Ok (front ++ x.0, x.1)

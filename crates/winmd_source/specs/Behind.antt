-- What was read of a list, and what reading the others gives.
use Rattle.std.specs.Prelude.{◌++◌, List, Result, Ok}
use Rattle.winmd_rows.specs.Faults.{Fault, ◌>>=◌}

abbrev pub behind : {A : Type 0} → List A → Result (List A) Fault → Result (List A) Fault
behind front answer = answer >>= λ xs. Ok (front ++ xs)

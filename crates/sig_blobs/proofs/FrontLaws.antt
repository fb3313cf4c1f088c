-- What stands in front stays while more is written behind it.
use Rattle.std.proofs.Common.{◌≡◌, ℕ, List, ◌++◌, ap, ◌∙◌, append_assoc}
use Rattle.sig_blobs.specs.Appending.{KeepsFront}

-- what follows was written behind all of it
pub keeps_on : (old rest middle new : List ℕ) → middle ≡ old ++ rest → KeepsFront middle new → KeepsFront old new
keeps_on old rest middle new m k = record { rest = rest ++ k.rest; split = k.split ∙ ap (λ xs. xs ++ k.rest) m ∙ append_assoc old rest k.rest }

-- A flaw that is found is the blob's fault.
use Rattle.std.proofs.Common.{List, ℕ, Result, ap}
use Rattle.ranked.specs.declared.stop.Stop.{Stop}
use Rattle.ranked.specs.declared.stop.Stop.TheVariants as stops
use Rattle.sig_blobs.specs.declared.flaw.Flaw.{Flaw}
use Rattle.sig_blobs.specs.Given.{Fails}
use Rattle.sig_blobs.specs.Reading.{placed, stop_in}

pub placed_fails : {Y : Type 0} (blob : List ℕ) (stop : Stop Flaw) (answer : Result Y Flaw) → Fails stop answer → Fails (stop_in blob stop) (placed blob answer)
placed_fails blob stops.Memory answer h = tt
placed_fails blob (stops.Refused e) answer h = ap (placed blob) h

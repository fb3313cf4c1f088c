-- A fault of a value stands at its cell.
use Rattle.std.proofs.Common.{ℕ, Result, ap}
use Rattle.md_schema.specs.declared.faults.ImageFault.{ImageFault}
use Rattle.ranked.specs.declared.stop.Stop.{Stop}
use Rattle.ranked.specs.declared.stop.Stop.TheVariants as stops
use Rattle.sig_blobs.specs.Given as blobs
use Rattle.sig_blobs.specs.declared.argument.Argument.{Argument}
use Rattle.winmd_cells.specs.Given.{Fails}
use Rattle.winmd_sets.specs.Attributes.{placed_at}
use Rattle.winmd_attributes.specs.Stops.{stop_at}

pub placed_fails : (offset : ℕ) (stop : Stop ImageFault) (answer : Result Argument ImageFault) → blobs.Fails stop answer → Fails (stop_at offset stop) (placed_at offset answer)
placed_fails offset stops.Memory answer h = tt
placed_fails offset (stops.Refused e) answer h = ap (placed_at offset) h

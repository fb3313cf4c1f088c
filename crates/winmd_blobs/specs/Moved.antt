-- What stopped the reading of a blob, where it stands in the image.
use Rattle.std.specs.Prelude.{◌≡◌, ℕ, List, Err}
use Rattle.md_schema.specs.declared.faults.ImageFault.{ImageFault}
use Rattle.ranked.specs.declared.stop.Stop.{Stop}
use Rattle.ranked.specs.declared.stop.Stop.TheVariants as stops
use Rattle.winmd_cells.specs.Given.{Fails}
use Rattle.winmd_lines.specs.Cells.{Tables}
use Rattle.winmd_sets.specs.Blobs.{spelled}

-- want of memory, or the fault of a blob whose cell stands at an offset
abbrev pub IsMoved : Tables → ℕ → List ℕ → Stop ImageFault → Stop ImageFault → Type 0
IsMoved t offset blob stops.Memory stop = stop ≡ stops.Memory
IsMoved t offset blob (stops.Refused fault) stop = Fails stop (spelled {A = ℕ} t offset blob (Err fault))

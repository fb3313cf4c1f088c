-- A fault of an image (ECMA-335 II.24, II.22): its kind, and where it stands.
use Rattle.std.specs.Prelude.{ℕ}
use Rattle.md_schema.specs.declared.faults.ImageFault.{ImageFault}
use Rattle.md_schema.specs.declared.faults.ImageKind.{ImageKind}

-- what the offset counts in, each use says
abbrev pub fault_at : ImageKind → ℕ → ImageFault
fault_at kind offset = record { kind = kind; offset = offset }

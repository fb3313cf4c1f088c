-- What stopped the reading of a value, where its cell stands; the name in the ABI that an attribute says.
use Rattle.std.specs.Prelude.{ℕ, List, Result}
use Rattle.md_schema.specs.Faults.{fault_at}
use Rattle.md_schema.specs.declared.faults.ImageFault.{ImageFault}
use Rattle.ranked.specs.declared.stop.Stop.{Stop}
use Rattle.ranked.specs.declared.stop.Stop.TheVariants.{Memory, Refused}
use Rattle.winmd_rows.specs.Faults.{Fault, ◌>>=◌}
use Rattle.winmd_lines.specs.Cells.{Tables, identifier_of}
use Rattle.winmd_sets.specs.Attributes.{Attribute, value_at, words_of}

abbrev pub stop_at : ℕ → Stop ImageFault → Stop ImageFault
stop_at offset Memory = Memory
stop_at offset (Refused e) = Refused (fault_at e.kind offset)

-- an identifier of at most 511 bytes
abbrev pub abi_name_of : Tables → Attribute → Result (List ℕ) Fault
abi_name_of t attribute = words_of t attribute >>= λ words. identifier_of 511 (value_at t attribute) words

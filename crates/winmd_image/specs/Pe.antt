-- The headers of the file, its sections and the CLI header (ECMA-335 II.25): where the metadata stands.
use Rattle.std.specs.Prelude.{ℕ, zero, suc, ◌+◌, ◌-◌, ◌*◌, ◌/◌, ◌==◌, ◌&&◌, ◌||◌, nat_le, codes, Bool, List, [], ◌∷◌, length, Option, Some, None, Result, Ok, if◌then◌else◌}
use Rattle.md_bytes.specs.Bytes.{number_at}
use Rattle.md_schema.specs.Streams.{Range}
use Rattle.md_schema.specs.declared.faults.ImageFault.{ImageFault}
use Rattle.md_schema.specs.declared.faults.ImageKind.TheVariants.{NotPe, NoCli, BadRva}
use Rattle.winmd_image.specs.Faults.{fault, ◌>>=◌, checked, field, begins}

-- ---- sections (II.25.3)

-- how many section headers there are, and where the first stands
pub record Sections : Type 0 where
  pub count : ℕ
  pub first : ℕ

-- The section of a header holds a range of addresses, by how many bytes it has in the file, and the image has all of the range: where it stands.
abbrev pub held_at : List ℕ → ℕ → ℕ → ℕ → Option ℕ
held_at bytes header address size =
    if nat_le (number_at bytes (header + 12) 4) address
    && nat_le (address + size) (number_at bytes (header + 12) 4 + number_at bytes (header + 16) 4)
    && nat_le (number_at bytes (header + 20) 4 + (address - number_at bytes (header + 12) 4) + size) (length bytes)
    then Some (number_at bytes (header + 20) 4 + (address - number_at bytes (header + 12) 4)) else None

abbrev pub or_further : Option ℕ → Result ℕ ImageFault → Result ℕ ImageFault
or_further (Some at) further = Ok at
or_further None further = further

-- The first of so many sections that holds the range. Where none does, the fault is at the cell that gives the address.
abbrev pub in_sections : List ℕ → ℕ → ℕ → ℕ → ℕ → ℕ → Result ℕ ImageFault
in_sections bytes zero header cell address size = fault BadRva cell
in_sections bytes (suc count) header cell address size = or_further (held_at bytes header address size) (in_sections bytes count (header + 40) cell address size)

abbrev pub placed : List ℕ → Sections → ℕ → ℕ → ℕ → Result ℕ ImageFault
placed bytes sections cell address size = in_sections bytes sections.count sections.first cell address size

-- ---- the headers of the file (II.25.2)

-- where the PE signature stands
abbrev pub signature_of : List ℕ → Result ℕ ImageFault
signature_of bytes = do
  mz ← checked (begins bytes 0 (codes "MZ")) NotPe 0
  pe ← field bytes NotPe 0x3C 4
  signed ← checked (begins bytes pe (80 ∷ 69 ∷ 0 ∷ 0 ∷ [])) NotPe pe
  Ok pe

-- the section headers stand behind the optional header, whose size the file header gives
abbrev pub sections_of : List ℕ → ℕ → Result Sections ImageFault
sections_of bytes pe = do
  count ← field bytes NotPe (pe + 6) 2
  size ← field bytes NotPe (pe + 20) 2
  Ok (record { count = count; first = pe + 24 + size })

-- where directory 14 stands, which is 16 bytes further where addresses have eight bytes (II.25.2.3.3)
abbrev pub directory_of : List ℕ → ℕ → Result ℕ ImageFault
directory_of bytes pe = do
  magic ← field bytes NotPe (pe + 24) 2
  known ← checked (magic == 0x10B || magic == 0x20B) NotPe (pe + 24)
  Ok (pe + 24 + (if magic == 0x10B then 208 else 224))

-- all section headers are there, else the fault is at the first that is cut
abbrev pub are_whole : List ℕ → Sections → Result Bool ImageFault
are_whole bytes sections =
    checked (nat_le (sections.first + 40 * sections.count) (length bytes)) NotPe (sections.first + 40 * ((length bytes - sections.first) / 40))

-- the range of the CLI header, by directory 14
abbrev pub directory_range : List ℕ → Sections → ℕ → Result Range ImageFault
directory_range bytes sections directory = do
  address ← field bytes NotPe directory 4
  size ← field bytes NotPe (directory + 4) 4
  whole ← are_whole bytes sections
  Ok (record { offset = address; size = size })

-- where the CLI header stands: it has 72 bytes, which its directory has too
abbrev pub cli_of : List ℕ → Sections → ℕ → Result ℕ ImageFault
cli_of bytes sections directory = do
  range ← directory_range bytes sections directory
  long ← checked (nat_le 72 range.size) NoCli (directory + 4)
  placed bytes sections directory range.offset range.size

-- ---- the CLI header (II.25.3.3)

-- the range of the metadata
abbrev pub metadata_range : List ℕ → ℕ → Result Range ImageFault
metadata_range bytes cli = do
  size ← field bytes NoCli cli 4
  whole ← checked (size == 72) NoCli cli
  address ← field bytes NoCli (cli + 8) 4
  length_ ← field bytes NoCli (cli + 12) 4
  Ok (record { offset = address; size = length_ })

-- where the metadata stands
abbrev pub metadata_of : List ℕ → Sections → ℕ → Result Range ImageFault
metadata_of bytes sections cli = do
  range ← metadata_range bytes cli
  offset ← placed bytes sections (cli + 8) range.offset range.size
  Ok (record { offset = offset; size = range.size })

-- The headers, one after the other.
abbrev pub root_of : List ℕ → Result Range ImageFault
root_of bytes = do
  pe ← signature_of bytes
  sections ← sections_of bytes pe
  directory ← directory_of bytes pe
  cli ← cli_of bytes sections directory
  metadata_of bytes sections cli

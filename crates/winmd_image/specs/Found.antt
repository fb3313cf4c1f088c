-- What the stream headers name, as far as it matters.
use Rattle.std.specs.Prelude.{bytes_eq, codes, Bool, List, Option, Result, Ok, Err}
use Rattle.std.specs.List.{list_any}
use Rattle.md_schema.specs.Streams.{Range}
use Rattle.md_schema.specs.declared.faults.ImageFault.{ImageFault}
use Rattle.winmd_image.specs.Root.{Stream, named}

-- the first stream of each name, and whether one is named `#-`
pub record Found : Type 0 where
  pub tables : Option Range
  pub texts : Option Range
  pub users : Option Range
  pub guids : Option Range
  pub blobs : Option Range
  pub uncompressed : Bool

abbrev pub found_in : List Stream → Found
found_in streams = record {
  tables = named (codes "#~") streams;
  texts = named (codes "#Strings") streams;
  users = named (codes "#US") streams;
  guids = named (codes "#GUID") streams;
  blobs = named (codes "#Blob") streams;
  uncompressed = list_any (λ stream. bytes_eq stream.name (codes "#-")) streams;
}

-- what headers name, where they have no fault
abbrev pub all_found : Result (List Stream) ImageFault → Result Found ImageFault
all_found (Ok streams) = Ok (found_in streams)
all_found (Err fault) = Err fault

-- Headers that are read one by one: what is kept of them.
use Rattle.std.specs.Prelude.{ℕ, ◌||◌, not, bytes_eq, codes, Bool, Option, Some, None, Result, Ok, if◌then◌else◌}
use Rattle.md_schema.specs.Streams.{Range, Streams}
use Rattle.md_schema.specs.declared.faults.ImageFault.{ImageFault}
use Rattle.md_schema.specs.declared.faults.ImageKind.TheVariants.{Uncompressed}
use Rattle.winmd_image.specs.Faults.{◌>>=◌, checked}
use Rattle.winmd_image.specs.Found.{Found}
use Rattle.winmd_image.specs.Root.{Stream, needed, or_empty}

-- the range that was found before, or else this one where it is that of the stream
abbrev pub first_of : Option Range → Bool → Range → Option Range
first_of (Some before) is range = Some before
first_of None is range = if is then Some range else None

-- one header more
abbrev pub noted : Found → Stream → Found
noted found stream = record {
  tables = first_of found.tables (bytes_eq stream.name (codes "#~")) stream.range;
  texts = first_of found.texts (bytes_eq stream.name (codes "#Strings")) stream.range;
  users = first_of found.users (bytes_eq stream.name (codes "#US")) stream.range;
  guids = first_of found.guids (bytes_eq stream.name (codes "#GUID")) stream.range;
  blobs = first_of found.blobs (bytes_eq stream.name (codes "#Blob")) stream.range;
  uncompressed = found.uncompressed || bytes_eq stream.name (codes "#-");
}

-- the five streams among those that were found
abbrev pub streams_found : ℕ → Found → Result Streams ImageFault
streams_found root found = do
  packed ← checked (not found.uncompressed) Uncompressed root
  tables ← needed root found.tables
  texts ← needed root found.texts
  guids ← needed root found.guids
  blobs ← needed root found.blobs
  Ok (record { tables = tables; texts = texts; users = or_empty found.users; guids = guids; blobs = blobs })

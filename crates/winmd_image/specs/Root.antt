-- The root of the metadata and the headers of its streams (ECMA-335 II.24.2.1, II.24.2.2): where each stream stands.
use Rattle.std.specs.Prelude.{ℕ, zero, suc, ◌+◌, not, nat_le, bytes_eq, codes, List, [], ◌∷◌, length, Option, Some, None, Result, Ok, if◌then◌else◌}
use Rattle.std.specs.List.{list_any}
use Rattle.md_bytes.specs.Bytes.{part_at}
use Rattle.md_bytes.specs.Padding.{up}
use Rattle.md_schema.specs.Streams.{Range, Streams}
use Rattle.md_schema.specs.declared.faults.ImageFault.{ImageFault}
use Rattle.md_schema.specs.declared.faults.ImageKind.TheVariants.{NoRoot, NotWindowsRuntime, BadStream, Uncompressed, MissingStream}
use Rattle.winmd_image.specs.Faults.{fault, ◌>>=◌, checked, field, begins}
use Rattle.winmd_image.specs.Pe.{root_of}

-- a stream header: the name, and where the stream stands in the image
pub record Stream : Type 0 where
  pub name : List ℕ
  pub range : Range

abbrev pub name_to_zero : List ℕ → List ℕ
name_to_zero [] = []
name_to_zero (zero ∷ bytes) = []
name_to_zero (suc b ∷ bytes) = suc b ∷ name_to_zero bytes

-- The stream header at an offset. The metadata holds the stream.
abbrev pub header_at : List ℕ → Range → ℕ → Result Stream ImageFault
header_at bytes metadata at = do
  offset ← field bytes BadStream at 4
  size ← field bytes BadStream (at + 4) 4
  fits ← checked (nat_le (offset + size) metadata.size) BadStream at
  Ok (record { name = name_to_zero (part_at bytes (at + 8) 32); range = record { offset = metadata.offset + offset; size = size } })

-- the next header stands behind the name, which has at least one zero behind it, up to a multiple of four
abbrev pub behind_header : ℕ → Stream → ℕ
behind_header at stream = at + 8 + up (suc (length stream.name)) 4

-- so many stream headers from an offset on
abbrev pub headers : List ℕ → Range → ℕ → ℕ → Result (List Stream) ImageFault
headers bytes metadata zero at = Ok []
headers bytes metadata (suc count) at = do
  stream ← header_at bytes metadata at
  others ← headers bytes metadata count (behind_header at stream)
  Ok (stream ∷ others)

-- where the first stream of a name stands
abbrev pub named : List ℕ → List Stream → Option Range
named name [] = None
named name (stream ∷ streams) = if bytes_eq stream.name name then Some stream.range else named name streams

-- a stream that has to be there
abbrev pub needed : ℕ → Option Range → Result Range ImageFault
needed root None = fault MissingStream root
needed root (Some range) = Ok range

-- a stream that may be missing: it has no bytes then
abbrev pub or_empty : Option Range → Range
or_empty None = record { offset = 0; size = 0 }
or_empty (Some range) = range

-- the headers behind the root
abbrev pub stream_headers : List ℕ → Range → Result (List Stream) ImageFault
stream_headers bytes root = do
  signed ← checked (begins bytes root.offset (codes "BSJB")) NoRoot root.offset
  long ← field bytes NoRoot (root.offset + 12) 4
  version ← checked (begins bytes (root.offset + 16) (codes "WindowsRuntime 1.")) NotWindowsRuntime (root.offset + 16)
  count ← field bytes NoRoot (root.offset + 18 + long) 2
  headers bytes root count (root.offset + 20 + long)

-- The five streams among those of an image: of each name the first, and none with tables that aren't compressed. `#US` may be missing.
abbrev pub streams_among : ℕ → List Stream → Result Streams ImageFault
streams_among root streams = do
  packed ← checked (not (list_any (λ stream. bytes_eq stream.name (codes "#-")) streams)) Uncompressed root
  tables ← needed root (named (codes "#~") streams)
  texts ← needed root (named (codes "#Strings") streams)
  guids ← needed root (named (codes "#GUID") streams)
  blobs ← needed root (named (codes "#Blob") streams)
  Ok (record { tables = tables; texts = texts; users = or_empty (named (codes "#US") streams); guids = guids; blobs = blobs })

-- The five streams of an image, or its first fault.
abbrev pub streams_of : List ℕ → Result Streams ImageFault
streams_of bytes = do
  root ← root_of bytes
  streams ← stream_headers bytes root
  streams_among root.offset streams

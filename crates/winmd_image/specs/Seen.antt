-- What the code holds, as the definitions see it.
use Rattle.std.specs.Prelude.{Option, option_map}
use Rattle.md_schema.specs.Streams.{Range, Streams}
use Rattle.winmd_image.specs.Found.{Found}
use Rattle.winmd_image.specs.Pe.{Sections}
use Rattle.winmd_image.specs.Root.{Stream}
use Rattle.winmd_image.specs.declared.pe.Range.{Range as RangeHeld}
use Rattle.winmd_image.specs.declared.pe.Sections.{Sections as SectionsHeld}
use Rattle.winmd_image.specs.declared.root.Stream.{Stream as StreamHeld}
use Rattle.winmd_image.specs.declared.root.Found.{Found as FoundHeld}
use Rattle.winmd_image.specs.declared.root.Ranges.{Ranges as RangesHeld}

abbrev pub range_seen : RangeHeld → Range
range_seen x = record { offset = x.offset; size = x.size }

abbrev pub sections_seen : SectionsHeld → Sections
sections_seen x = record { count = x.count; first = x.first }

abbrev pub stream_seen : StreamHeld → Stream
stream_seen x = record { name = x.name.now; range = range_seen x.range }

abbrev pub maybe_seen : Option RangeHeld → Option Range
maybe_seen x = option_map range_seen x

abbrev pub found_seen : FoundHeld → Found
found_seen x = record {
  tables = maybe_seen x.tables;
  texts = maybe_seen x.texts;
  users = maybe_seen x.users;
  guids = maybe_seen x.guids;
  blobs = maybe_seen x.blobs;
  uncompressed = x.uncompressed;
}

abbrev pub ranges_seen : RangesHeld → Streams
ranges_seen x = record { tables = range_seen x.tables; texts = range_seen x.texts; users = range_seen x.users; guids = range_seen x.guids; blobs = range_seen x.blobs }

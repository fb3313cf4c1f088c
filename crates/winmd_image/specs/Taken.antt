-- The streams that the code answers, as the definition sees them.
use Rattle.winmd_image.specs.Slices.{Slice, Slices}
use Rattle.winmd_image.specs.declared.slices.Stream.{Stream}
use Rattle.winmd_image.specs.declared.slices.Streams.{Streams}

abbrev pub slice_seen : Stream → Slice
slice_seen x = record { offset = x.offset; bytes = x.bytes.now }

abbrev pub slices_seen : Streams → Slices
slices_seen x = record { tables = slice_seen x.tables; texts = slice_seen x.texts; users = slice_seen x.users; guids = slice_seen x.guids; blobs = slice_seen x.blobs }

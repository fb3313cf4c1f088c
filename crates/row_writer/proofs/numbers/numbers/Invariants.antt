use Rattle.std.specs.Prelude.{◌≡◌, length, take, map}
use Rattle.std.specs.List.{Contains}
use Rattle.md_heaps.specs.Blobs.{BlobHere, blob_bytes}
use Rattle.md_heaps.specs.Texts.{text_bytes}
use Rattle.md_heaps.specs.Heaps.{EachStands, Keeps}
use Rattle.md_tables.specs.Rows.{rows_in}
use Rattle.row_writer.specs.Known.{Says}
use Rattle.row_writer.specs.Lines.{counts, value_of}
use Rattle.row_writer.specs.Tight.{Grew}
use Rattle.winmd_rows.specs.Values.{Text, Blob}
use Rattle.row_writer.proofs.numbers.numbers.Given as goal

abbrev pub invariant-loop-i : goal.invariant-loop-i
invariant-loop-i l =
    Keeps l.fn.texts l.texts × Keeps l.fn.blobs l.blobs × EachStands BlobHere l.blobs
    × Says l.texts l.blobs (take l.i l.columns) l.row.items (take l.i (map (value_of (counts (rows_in l.set))) l.cells))
    × Grew text_bytes (λ content. Contains (map (value_of (counts (rows_in l.set))) l.cells) (Text content)) l.fn.texts l.texts
    × Grew blob_bytes (λ content. Contains (map (value_of (counts (rows_in l.set))) l.cells) (Blob content)) l.fn.blobs l.blobs
    × (length l.row.items ≡ l.i)

-- The streams of an image, taken out of it.
use Rattle.std.specs.Prelude.{ℕ, List, Result, Ok}
use Rattle.md_schema.specs.Streams.{Range, Streams, bytes_in}
use Rattle.md_schema.specs.declared.faults.ImageFault.{ImageFault}
use Rattle.winmd_image.specs.Faults.{◌>>=◌}
use Rattle.winmd_image.specs.Root.{streams_of}

-- the bytes of a stream, and where they stand in the image
pub record Slice : Type 0 where
  pub offset : ℕ
  pub bytes : List ℕ

pub record Slices : Type 0 where
  pub tables : Slice
  pub texts : Slice
  pub users : Slice
  pub guids : Slice
  pub blobs : Slice

abbrev pub slice : List ℕ → Range → Slice
slice image range = record { offset = range.offset; bytes = bytes_in image range }

abbrev pub slices_in : List ℕ → Streams → Slices
slices_in image streams = record {
  tables = slice image streams.tables;
  texts = slice image streams.texts;
  users = slice image streams.users;
  guids = slice image streams.guids;
  blobs = slice image streams.blobs;
}

-- The five streams of an image with their bytes, or its first fault.
abbrev pub unwrapped : List ℕ → Result Slices ImageFault
unwrapped image = streams_of image >>= λ streams. Ok (slices_in image streams)

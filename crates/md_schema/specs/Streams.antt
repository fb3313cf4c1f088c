-- The streams of an image (ECMA-335 II.24.2.2).
use Rattle.std.specs.Prelude.{ℕ, List}
use Rattle.md_bytes.specs.Bytes.{part_at}

-- a part of the image: where it begins, and how many bytes it has
pub record Range : Type 0 where
  pub offset : ℕ
  pub size : ℕ

-- The five streams: `#~`, `#Strings`, `#US`, `#GUID` and `#Blob`. A `#US` that isn't there has no bytes.
pub record Streams : Type 0 where
  pub tables : Range
  pub texts : Range
  pub users : Range
  pub guids : Range
  pub blobs : Range

-- the bytes of a range
abbrev pub bytes_in : List ℕ → Range → List ℕ
bytes_in image range = part_at image range.offset range.size

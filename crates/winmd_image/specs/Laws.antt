-- What is taken out of an image that is written.
use Rattle.std.specs.Prelude.{◌+◌, length}
use Rattle.winmd_image.specs.Parts.{Parts}
use Rattle.winmd_image.specs.Slices.{Slices}

-- The streams as they were written, each where the one before it ends. The metadata begins at 584, and the first stream 116 bytes behind that.
abbrev pub slices_of : Parts → Slices
slices_of p = record {
  tables = record { offset = 584 + 116; bytes = p.tables };
  texts = record { offset = 584 + (116 + length p.tables); bytes = p.texts };
  users = record { offset = 584 + (116 + length p.tables + length p.texts); bytes = p.users };
  guids = record { offset = 584 + (116 + length p.tables + length p.texts + length p.users); bytes = p.guids };
  blobs = record { offset = 584 + (116 + length p.tables + length p.texts + length p.users + length p.guids); bytes = p.blobs };
}

-- What the sources of an answer are.
use Rattle.std.specs.Prelude.{◌≡◌, ℕ, List, [], ◌∷◌, Some, slice_get, string_bytes, Option, IfSome}
use Rattle.wr_outside.specs.Files.{Files}
use Rattle.midl_tree.specs.Views.{source_view}
use Rattle.midl_tree.specs.declared.nodes.File.{File}
use Rattle.source_set.specs.declared.source.Source.{Source}
use Rattle.source_set.specs.declared.source.Text.{Text}
use Rattle.source_set.specs.declared.files.SourceSet.{SourceSet}
use Rattle.source_set.specs.Found.{Read}

-- a source without where it lies in memory
abbrev pub read_of : Source → Read
read_of s = record { name = string_bytes s.text.name; bytes = s.text.bytes.items; tree = source_view s.file }

-- each text with the tree at its place
abbrev pub sources_of : List Text → List File → List Source
sources_of (t ∷ ts) (f ∷ fs) = record { text = t; file = f } ∷ sources_of ts fs
sources_of _ _ = []

-- the sources of a set
abbrev pub sources_in : SourceSet → List Source
sources_in set = sources_of set.texts.items set.files.items

-- a text without where it lies in memory
abbrev pub text_view : Text → List ℕ × List ℕ
text_view t = (string_bytes t.name, t.bytes.items)

-- each file has its place as number
pub record AreNumbered (sources : List Source) : Type 0 where
  pub each : (k : ℕ) (s : Source) → slice_get sources k ≡ Some s → s.file.number ≡ k

-- these are the files of the store, as far as it tells them
abbrev pub MayHold : Option Files → Files → Type 0
MayHold held files = IfSome held (λ told. told ≡ files)

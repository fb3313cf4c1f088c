-- The files of an ordered map from names to contents.
use Rattle.std.specs.Prelude.{ℕ, List, [], ◌∷◌, Vec, String, string_bytes}
use Rattle.std.specs.declared.alloc.Global.{Global}
use Rattle.std.specs.BTreeMap.{BTreeMap}
use Rattle.std.specs.FinMap as map
use Rattle.wr_outside.specs.Files.{Files}

-- each name and each content as its bytes
abbrev pub entries_of : List (String Global × Vec ℕ Global) → List (List ℕ × List ℕ)
entries_of [] = []
entries_of (e ∷ es) = (string_bytes e.0, e.1.items) ∷ entries_of es

-- the finite map of these bytes
abbrev pub files_of : BTreeMap (String Global) (Vec ℕ Global) → Files
files_of m = map.from_entries (entries_of m.entries)

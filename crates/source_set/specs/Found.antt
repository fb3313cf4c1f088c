-- The names of a source set, in the order in which they are found.
use Rattle.std.specs.Prelude.{ℕ, ◌-◌, min, List, [], ◌∷◌, ◌++◌, length, take, if◌then◌else◌}
use Rattle.std.specs.List.{fold, list_any, flat_map, sum_by}
use Rattle.std.specs.Str.{bytes_eq}
use Rattle.midl_tree.specs.Trees.{SourceTree}
use Rattle.source_set.specs.Imports.{imported}

-- the names with this one behind them, where it isn't among them
unfoldable pub with_name : List (List ℕ) → List ℕ → List (List ℕ)
with_name names name = if list_any (bytes_eq name) names then names else names ++ name ∷ []

-- the names with others behind them, each once
abbrev pub with_names : List (List ℕ) → List (List ℕ) → List (List ℕ)
with_names = fold with_name

-- each name once, where it stands first
abbrev pub once : List (List ℕ) → List (List ℕ)
once = with_names []

-- a file that was read
pub record Read : Type 0 where
  pub name : List ℕ
  pub bytes : List ℕ
  pub tree : SourceTree

abbrev pub imports_in : Read → List (List ℕ)
imports_in r = imported r.name r.tree

-- the names that are known once these files are read: the words, and then what the files import in turn
unfoldable pub found : List (List ℕ) → List Read → List (List ℕ)
found words reads = once (words ++ flat_map imports_in reads)

abbrev pub size_of : List Read → ℕ
size_of = sum_by (λ r. length r.bytes)

-- how many files a source set may have
abbrev pub most_files : ℕ
most_files = 256

-- names beyond the 257th aren't asked for
abbrev pub first_names : List (List ℕ) → List (List ℕ)
first_names = take 257

-- how many bytes the file after these may have: what one file may have, and what is left of what all may have
abbrev pub room : List Read → ℕ
room reads = min 4194304 (16777216 - size_of reads)

-- The files that a file imports (MIDL 3.0 reference, "Import").
use Rattle.std.specs.Prelude.{ℕ, ◌==◌, Bool, not, ◌&&◌, ◌||◌, if◌then◌else◌, List, [], ◌∷◌, ◌++◌, map, reverse, codes}
use Rattle.std.specs.List.{flat_map, starts_with, ends_with}
use Rattle.std.specs.Bool.{nat_eq}
use Rattle.std.specs.Char.{to_ascii_lowercase}
use Rattle.std.specs.Str.{bytes_eq}
use Rattle.midl_tree.specs.Symbols.{Symbol}
use Rattle.midl_tree.specs.Trees.{SourceTree}
use Rattle.wr_base.specs.Parts.{up_to_last, behind_last}

-- the bytes without the mark at their front
abbrev pub without_first : ℕ → List ℕ → List ℕ
without_first mark [] = []
without_first mark (b ∷ bs) = if b == mark then bs else b ∷ bs

-- a text without the quotation marks at its ends
unfoldable pub unquoted : List ℕ → List ℕ
unquoted text = reverse (without_first 34 (reverse (without_first 34 text)))

-- `inspectable.idl`, `unknwn.idl`, or `windows.` and more up to `.idl`
abbrev pub is_known_small : List ℕ → Bool
is_known_small part =
    bytes_eq part (codes "inspectable.idl")
    || (bytes_eq part (codes "unknwn.idl") || (starts_with nat_eq part (codes "windows.") && ends_with nat_eq part (codes ".idl")))

-- the same in any ASCII case: what these files declare is known without them
unfoldable pub is_known : List ℕ → Bool
is_known part = is_known_small (map to_ascii_lowercase part)

-- the import adds a file
abbrev pub adds_file : List ℕ → Bool
adds_file text = not (is_known (behind_last 47 text))

-- the name of the file that an import of this text means, behind the importing file's folder
abbrev pub behind_folder : List ℕ → List ℕ → List ℕ
behind_folder importer text = up_to_last 47 importer ++ text

-- the text of an import, where it adds a file
abbrev pub text_of : Symbol → List (List ℕ)
text_of t = let text = unquoted t.text in if adds_file text then text ∷ [] else []

-- the texts of the imports of a tree that add files, in order
unfoldable pub texts_of : SourceTree → List (List ℕ)
texts_of tree = flat_map (flat_map text_of) tree.imports

-- the names of the files that a file of this name with this tree imports, in order
unfoldable pub imported : List ℕ → SourceTree → List (List ℕ)
imported name tree = map (behind_folder name) (texts_of tree)

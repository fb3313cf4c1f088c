-- Bytes that are written over those of an image.
use Rattle.std.specs.Prelude.{ℕ, ◌+◌, List, [], ◌∷◌, ◌++◌, length, take, drop, Result}
use Rattle.std.specs.List.{fold}
use Rattle.md_bytes.specs.Bytes.{le}
use Rattle.wr_base.specs.Trees.{DeclTree}
use Rattle.winmd_rows.specs.Faults.{Fault}
use Rattle.winmd_strict.specs.Reading.{TypesOf}

-- bytes that are written at an offset
abbrev pub Edit : Type 0
Edit = ℕ × List ℕ

abbrev pub edited : List ℕ → Edit → List ℕ
edited bytes edit = take edit.0 bytes ++ edit.1 ++ drop (edit.0 + length edit.1) bytes

-- one byte; a cell of two
abbrev pub byte : ℕ → ℕ → List Edit
byte offset b = (offset, b ∷ []) ∷ []

abbrev pub cell : ℕ → ℕ → List Edit
cell offset n = (offset, le 2 n) ∷ []

-- edits, and what the image then states
abbrev pub Edited : Type 0
Edited = List Edit × Result (List DeclTree) Fault

abbrev pub found_in : List ℕ → Edited → Result (List DeclTree) Fault
found_in image e = TypesOf (fold edited image e.0)

abbrev pub wanted : Edited → Result (List DeclTree) Fault
wanted e = e.1

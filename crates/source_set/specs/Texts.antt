-- The texts of a set, and the one that a fault names.
use Rattle.std.specs.Prelude.{ℕ, List, [], map, slice_get, unwrap_or}
use Rattle.source_set.specs.Found.{Read}

-- a file's name and its bytes
abbrev pub text_of : Read → List ℕ × List ℕ
text_of r = (r.name, r.bytes)

-- the text of this number; where there is none, no name and no bytes
abbrev pub text_in : List (List ℕ × List ℕ) → ℕ → List ℕ × List ℕ
text_in texts k = unwrap_or (slice_get texts k) ([], [])

-- the name and the bytes of the file of this number
abbrev pub text_at : List Read → ℕ → List ℕ × List ℕ
text_at reads k = text_in (map text_of reads) k

-- What is written of a found type.
use Rattle.std.specs.Prelude.{◌≡◌, ◌<◌, ℕ, Bool, true, false, List, [], ◌∷◌, ◌++◌, Some, None, length, map}
use Rattle.std.specs.List.{flat_map}
use Rattle.found_table.specs.declared.found.FoundPart.{FoundPart}
use Rattle.found_table.specs.Views.{part_view}
use Rattle.wr_rules.specs.Signatures.{Piece, joined, part as piece_part, found_piece}
use Rattle.pinterface_id.specs.Stack.{put}

-- a piece behind a semicolon, or none
abbrev pub PartWritten : Bool → Piece → List ℕ → List ℕ → Type 0
PartWritten true piece old new = (text : List ℕ) × (piece ≡ Some text) × (new ≡ old ++ 59 ∷ text)
PartWritten false piece old new = piece ≡ None

-- the pieces as one text, where each is there
abbrev pub FoundWritten : Bool → List Piece → List ℕ → List ℕ → Type 0
FoundWritten true pieces old new = (text : List ℕ) × (new ≡ old ++ text) × (0 < length pieces) × ((r : List Piece) → joined (pieces ++ r) ≡ put text (joined r))
FoundWritten false pieces old new = (r : List Piece) → joined (pieces ++ r) ≡ None

-- the pieces of a found struct's parts, each behind a semicolon
abbrev pub parts_of : List FoundPart → List Piece
parts_of parts = flat_map piece_part (map (λ p. found_piece (part_view p).type_ ∷ []) parts)

-- the pieces are written as one text, which may be empty
abbrev pub Flows : List Piece → List ℕ → List ℕ → Type 0
Flows pieces old new = (text : List ℕ) × (new ≡ old ++ text) × ((r : List Piece) → joined (pieces ++ r) ≡ put text (joined r))

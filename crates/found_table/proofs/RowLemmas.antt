-- What a name finds in a list of rows, row by row.
use Rattle.std.proofs.Common.{◌≡◌, ℕ, ◌+◌, Bool, true, false, ◌||◌, cond, List, ◌∷◌, drop, Option, Some, slice_get, IsTrue, ◌↔◌, refl, sym, ap, ◌∙◌}
use Rattle.std.specs.List.{list_any}
use Rattle.std.specs.Str.{bytes_eq}
use Rattle.std.specs.Cmp.Lexicographic.{bytes_decides}
use Rattle.std.proofs.lemmas.List.{drop_more}
use Rattle.std.proofs.lemmas.Option.{slice_get_within, get_or_from_slice_get}
use Rattle.found_table.specs.Found.{FoundRow}
use Rattle.found_table.specs.Table.{name_of, row_of}

row_and_rest : (rows : List FoundRow) (i : ℕ) (row : FoundRow) → slice_get rows i ≡ Some row → drop i rows ≡ row ∷ drop (i + 1) rows
row_and_rest rows i row at = drop_more rows i row (slice_get_within rows i row at) ∙ ap (λ x. x ∷ drop (i + 1) rows) (get_or_from_slice_get rows i row row at)

-- the row at a place has the name
pub row_here : (rows : List FoundRow) (i : ℕ) (row : FoundRow) (name : List ℕ) (found : Option FoundRow) → slice_get rows i ≡ Some row
    → found ≡ row_of (drop i rows) name → bytes_eq name (name_of row) ≡ true → Some row ≡ found
row_here rows i row name found at so_far same =
    sym (so_far ∙ ap (λ x. row_of x name) (row_and_rest rows i row at) ∙ ap (λ t. cond t (Some row) (row_of (drop (i + 1) rows) name)) same)

-- it has another
pub row_later : (rows : List FoundRow) (i : ℕ) (row : FoundRow) (name : List ℕ) (found : Option FoundRow) → slice_get rows i ≡ Some row
    → found ≡ row_of (drop i rows) name → bytes_eq name (name_of row) ≡ false → found ≡ row_of (drop (i + 1) rows) name
row_later rows i row name found at so_far apart =
    so_far ∙ ap (λ x. row_of x name) (row_and_rest rows i row at) ∙ ap (λ t. cond t (Some row) (row_of (drop (i + 1) rows) name)) apart

-- the row at a place passes a test
pub any_here : (test : FoundRow → Bool) (rows : List FoundRow) (i : ℕ) (row : FoundRow) (found : Bool) → slice_get rows i ≡ Some row
    → found ≡ list_any test (drop i rows) → test row ≡ true → true ≡ found
any_here test rows i row found at so_far passes =
    sym (so_far ∙ ap (list_any test) (row_and_rest rows i row at) ∙ ap (λ t. t || list_any test (drop (i + 1) rows)) passes)

-- it doesn't
pub any_later : (test : FoundRow → Bool) (rows : List FoundRow) (i : ℕ) (row : FoundRow) (found : Bool) → slice_get rows i ≡ Some row
    → found ≡ list_any test (drop i rows) → test row ≡ false → found ≡ list_any test (drop (i + 1) rows)
any_later test rows i row found at so_far fails =
    so_far ∙ ap (list_any test) (row_and_rest rows i row at) ∙ ap (λ t. t || list_any test (drop (i + 1) rows)) fails

-- texts that are told apart aren't equal
pub apart : (a b : List ℕ) (told : Bool) → IsTrue told ↔ (a ≡ b) → told ≡ false → bytes_eq a b ≡ false
apart a b told h failed = elim (bytes_eq a b) as (λ t. bytes_eq a b ≡ t → t ≡ false) [
  | true ↦ λ same. cc (h.1 ((bytes_decides a b).0 same), failed)
  | false ↦ λ e. refl
] refl

-- Rows that are written, cell by cell.
use Rattle.std.proofs.Common.{◌≡◌, ℕ, ◌≤◌, List, [], ◌∷◌, ◌++◌, length, drop, refl, sym, ap, ◌∙◌, append_assoc}
use Rattle.std.proofs.lemmas.List.{drop_all, append-nil}
use Rattle.md_bytes.specs.Bytes.{le}
use Rattle.md_schema.specs.Written.{row_bytes}

row_bytes_none : (ws : List ℕ) → row_bytes ws [] ≡ []
row_bytes_none [] = refl
row_bytes_none (w ∷ ws) = refl

-- no cell is left
pub cells_put : (ws cells out total : List ℕ) (i : ℕ) → length cells ≤ i → out ++ row_bytes ws (drop i cells) ≡ total → out ≡ total
cells_put ws cells out total i le h =
    let e : row_bytes ws (drop i cells) ≡ [] = ap (row_bytes ws) (drop_all i cells le) ∙ row_bytes_none ws in
    sym (append-nil out) ∙ ap (λ (x : List ℕ). out ++ x) (sym e) ∙ h

pub head_group : (old a b c : List ℕ) → ((old ++ a) ++ b) ++ c ≡ old ++ ((a ++ b) ++ c)
head_group old a b c = append_assoc (old ++ a) b c ∙ append_assoc old a (b ++ c) ∙ ap (λ (x : List ℕ). old ++ x) (sym (append_assoc a b c))

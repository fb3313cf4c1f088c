-- Lines that are added one by one are the rows that are written.
use Rattle.std.proofs.Common.{◌≡◌, List, [], ◌∷◌, ◌++◌, map, refl, sym, ap, ◌∙◌, arith, length-append, append_assoc, inl, inr}
use Rattle.std.proofs.lemmas.List.{append-nil}
use Rattle.md_schema.specs.declared.table.Table.{Table}
use Rattle.winmd_lines.specs.Lines.{Line}
use Rattle.winmd_lines.specs.Names.{Names, Counts, none, is_in, behind, value_of, written}
use Rattle.winmd_lines.proofs.LineLaws.{either}
use Rattle.row_writer.specs.Known.{Values}
use Rattle.row_writer.specs.Lines.{counts, no_rows}
use Rattle.part_rows.specs.Grown.{with_line, with_lines}

counts_with : (names : Names) (l : Line) (rows : Values) (t : Table) → counts (with_line names l rows) t ≡ behind (counts rows) l t
counts_with names l rows t =
    elim (either (is_in t l)) [
      | inl e ↦ rw e (omega (arith, length-append (rows t) (map (value_of names (counts rows)) l.cells ∷ [])))
      | inr e ↦ rw e refl
    ]

with_lines_are : (names : Names) (lines : List Line) (rows : Values) (t : Table) → with_lines names lines rows t ≡ rows t ++ written names (counts rows) lines t
with_lines_are names [] rows t = sym (append-nil (rows t))
with_lines_are names (l ∷ ls) rows t =
    let rest = with_lines_are names ls (with_line names l rows) t in
    let same : counts (with_line names l rows) ≡ behind (counts rows) l = λ i. λ u. counts_with names l rows u i in
    let more : with_lines names ls (with_line names l rows) t ≡ with_line names l rows t ++ written names (behind (counts rows) l) ls t = rest ∙ ap (λ (b : Counts). with_line names l rows t ++ written names b ls t) same in
    elim (either (is_in t l)) [
      | inl e ↦ (let m = rw e at more in rw e (m ∙ append_assoc (rows t) (map (value_of names (counts rows)) l.cells ∷ []) (written names (behind (counts rows) l) ls t)))
      | inr e ↦ (let m = rw e at more in rw e m)
    ]

pub grown_written : (names : Names) (lines : List Line) → with_lines names lines no_rows ≡ written names none lines
grown_written names lines = λ i. λ t. with_lines_are names lines no_rows t i

pub with_both : (names : Names) (xs ys : List Line) (rows : Values) → with_lines names (xs ++ ys) rows ≡ with_lines names ys (with_lines names xs rows)
with_both names [] ys rows = refl
with_both names (x ∷ xs) ys rows = with_both names xs ys (with_line names x rows)

-- Lines and columns, one byte after the other.
use Rattle.std.proofs.Common.{◌≡◌, ℕ, ◌+◌, ◌≤◌, ◌<◌, ◌==◌, List, [], ◌∷◌, ◌++◌, length, take, get_or, refl, sym, ap, ◌∙◌, arith, count_by, eq-eqb, min, inl, inr}
use Rattle.std.proofs.lemmas.List.{length-append, length-take-le, take_more, take_all}
use Rattle.std.proofs.lemmas.List.Sums.{count_by-le-length, count_by_more_no, count_by_more_yes}
use Rattle.std.proofs.lemmas.Bool.{ne_eqb, cases_lt}
use Rattle.wr_base.specs.Parts.{behind_last}
use Rattle.wr_base.proofs.PartLaws.{behind_mark, behind_more, behind_short}

-- the counts behind the first i bytes
pub record Behind (bs : List ℕ) (i line column : ℕ) : Type 0 where
  pub line_is : line ≡ count_by (λ b. b == 10) (take i bs) + 1
  pub column_is : column ≡ length (behind_last 10 (take i bs)) + 1

pub line_fits : (bs : List ℕ) (i line column : ℕ) → i ≤ length bs → Behind bs i line column → line ≤ i + 1
line_fits bs i line column le h = omega (arith, h.line_is, count_by-le-length (λ b. b == 10) (take i bs), length-take-le i bs le)

pub column_fits : (bs : List ℕ) (i line column : ℕ) → i ≤ length bs → Behind bs i line column → column ≤ i + 1
column_fits bs i line column le h = omega (arith, h.column_is, behind_short 10 (take i bs), length-take-le i bs le)

pub feed : (bs : List ℕ) (i line column : ℕ) → i < length bs → get_or bs i 0 ≡ 10 → Behind bs i line column → Behind bs (i + 1) (line + 1) 1
feed bs i line column l e h = record {
  line_is = ap (λ t. t + 1) (h.line_is ∙ sym (count_by_more_yes (λ b. b == 10) bs i 0 l (eq-eqb (get_or bs i 0) 10 e)));
  column_is =
      let cut : take (i + 1) bs ≡ take i bs ++ 10 ∷ [] = take_more bs i 0 l ∙ ap (λ b. take i bs ++ b ∷ []) e in
      ap (λ t. length t + 1) (sym (ap (behind_last 10) cut ∙ behind_mark 10 (take i bs)));
}

pub no_feed : (bs : List ℕ) (i line column : ℕ) → i < length bs → (get_or bs i 0 ≡ 10 → ⊥) → Behind bs i line column → Behind bs (i + 1) line (column + 1)
no_feed bs i line column l ne h = record {
  line_is = h.line_is ∙ ap (λ t. t + 1) (sym (count_by_more_no (λ b. b == 10) bs i 0 l (ne_eqb (get_or bs i 0) 10 ne)));
  column_is =
      let cut = ap (behind_last 10) (take_more bs i 0 l) ∙ behind_more 10 (get_or bs i 0) (take i bs) (ne_eqb (get_or bs i 0) 10 ne) in
      omega (arith, h.column_is, ap length cut, length-append (behind_last 10 (take i bs)) (get_or bs i 0 ∷ []));
}

pub nothing_behind : (bs : List ℕ) → Behind bs 0 1 1
nothing_behind bs = record { line_is = refl; column_is = refl }

-- a prefix up to an offset that may lie behind the end
pub take_min : (bs : List ℕ) (offset : ℕ) → take (min (length bs) offset) bs ≡ take offset bs
take_min bs offset = elim (cases_lt offset (length bs)) [
  | inl low ↦ ap (λ n. take n bs) (let is : min (length bs) offset ≡ offset = omega arith in is)
  | inr high ↦ ap (λ n. take n bs) (let is : min (length bs) offset ≡ length bs = omega arith in is) ∙ take_all (length bs) bs (omega arith) ∙ sym (take_all offset bs high)
]

-- A text that stands in a heap is read there, also with padding behind it.
use Rattle.std.proofs.Common.{◌≡◌, ℕ, zero, suc, ◌<◌, true, ltb, List, [], ◌∷◌, ◌++◌, length, drop, Option, Some, None, Ok, refl, ap, ◌∙◌, arith, length-append, inl, inr}
use Rattle.std.proofs.lemmas.Bool.{lt-ltb, ltb-true}
use Rattle.std.proofs.lemmas.List.{drop-append-le}
use Rattle.md_heaps.specs.Reading.{until_zero, longer, ended, text_at}
use Rattle.winmd_lines.proofs.LineLaws.{either}

until_by : (b : ℕ) (xs ys text : List ℕ) (o p : Option (List ℕ)) → ((t : List ℕ) → o ≡ Some t → p ≡ Some t) → longer (suc b) o ≡ Some text → longer (suc b) p ≡ Some text
until_by b xs ys text None p grows h = absurd cc
until_by b xs ys text (Some t) p grows h = ap (longer (suc b)) (grows t refl) ∙ h

until_grows : (xs ys text : List ℕ) → until_zero xs ≡ Some text → until_zero (xs ++ ys) ≡ Some text
until_grows [] ys text h = absurd cc
until_grows (zero ∷ xs) ys text h = h
until_grows (suc b ∷ xs) ys text h = until_by b xs ys text (until_zero xs) (until_zero (xs ++ ys)) (λ t e. until_grows xs ys t e) h

-- a text that is read is read also with more behind it
pub text_more : (heap more : List ℕ) (at : ℕ) (text : List ℕ) → text_at heap at ≡ Ok text → text_at (heap ++ more) at ≡ Ok text
text_more heap more at text h =
    elim (either (ltb at (length heap))) [
      | inl e ↦
          let low : at < length heap = ltb-true _ _ e in
          let long : ltb at (length (heap ++ more)) ≡ true = lt-ltb _ _ (omega (arith, low, length-append heap more)) in
          let is : drop at (heap ++ more) ≡ drop at heap ++ more = drop-append-le at heap more (omega (arith, low)) in
          rw (long, is) (by (until_zero (drop at heap)) refl (rw e at h))
      | inr e ↦ absurd (let n = rw e at h in cc)
    ]
  where
    by : (o : Option (List ℕ)) → until_zero (drop at heap) ≡ o → ended at o ≡ Ok text → ended at (until_zero (drop at heap ++ more)) ≡ Ok text
    by None e h = absurd cc
    by (Some t) e h = rw (until_grows (drop at heap) more t e) h

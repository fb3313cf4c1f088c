-- A line in two parts.
use Rattle.std.proofs.Common.{◌≡◌, ℕ, ◌+◌, ◌≤◌, List, ◌++◌, length, take, Option, sym, ap, ◌∙◌, inl, inr, arith}
use Rattle.std.proofs.lemmas.Bool.{cases_lt}
use Rattle.std.proofs.lemmas.List.{take-append-le, take_all}
use Rattle.std.proofs.Math.Seq.{take-append-add}
use Rattle.wr_outside.specs.Cause.{Rose}
use Rattle.wr_outside.specs.Files.{with_put}
use Rattle.wr_outside.proofs.FileLemmas.{with_put-with_put}

-- a prefix of the first part is one of both
prefix_of_both : (n : ℕ) (name text : List ℕ) → (m : ℕ) × (take n name ≡ take m (name ++ text))
prefix_of_both n name text = elim (cases_lt n (length name)) [
  | inl low ↦ (n, sym (take-append-le n name text (omega (arith, low))))
  | inr high ↦ (length name, take_all n name high ∙ sym (take-append-le (length name) name text (omega arith) ∙ take_all (length name) name (omega arith)))
]

-- putting the first part failed
pub first_part : (before after : Option (List ℕ)) (name text : List ℕ)
    → (n : ℕ) × (after ≡ with_put before (take n name)) → (m : ℕ) × (after ≡ with_put before (take m (name ++ text)))
first_part before after name text (n, e) = let m = prefix_of_both n name text in (m.0, e ∙ ap (with_put before) m.1)

-- putting the second part failed
pub second_part : (before mid after : Option (List ℕ)) (name text : List ℕ) → mid ≡ with_put before name
    → (n : ℕ) × (after ≡ with_put mid (take n text)) → (m : ℕ) × (after ≡ with_put before (take m (name ++ text)))
second_part before mid after name text p (n, e) = (
  length name + n,
  e ∙ ap (λ t. with_put t (take n text)) p ∙ with_put-with_put before name (take n text) ∙ ap (with_put before) (sym (take-append-add name text n)),
)

-- a part of equal bytes
pub part_of : (before after : Option (List ℕ)) (xs ys : List ℕ) → xs ≡ ys
    → (n : ℕ) × (after ≡ with_put before (take n xs)) → (n : ℕ) × (after ≡ with_put before (take n ys))
part_of before after xs ys same (n, e) = (n, e ∙ ap (λ t. with_put before (take n t)) same)

-- a count that rose later rose
pub rose_later : (first mid last : ℕ) → first ≤ mid → Rose mid last → Rose first last
rose_later first mid last le rose = omega arith

-- a count that never fell
pub grows : (first mid last : ℕ) → first ≤ mid → mid ≤ last → first ≤ last
grows first mid last low high = omega arith

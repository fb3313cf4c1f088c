-- A rule that counts only where an earlier entry isn't broken.
use Rattle.std.proofs.Common.{Option, Some, None, ◌⊎◌, inl, inr, ⊎_elim, subst}
use Rattle.ranked.specs.Entries.{Entry, UpTo}
use Rattle.ranked.specs.First.{IsFirst, Or}
use Rattle.ranked.proofs.FirstLaws.{further, one_least}

-- an entry of A that stands before, or is it
abbrev pub Covered : (Entry → Type 0) → Entry → Type 0
Covered A e = (a : Entry) × A a × UpTo a e

module _ (A B C : Entry → Type 0) (to : (e : Entry) → B e → C e ⊎ Covered A e) (from : (e : Entry) → C e → B e ⊎ Covered A e) where
  -- rules that agree wherever no entry of A stands before have the same first entry beside A
  pub shadowed : (r : Option Entry) → IsFirst (Or A B) r → IsFirst (Or A C) r
  unfolding IsFirst Or
  shadowed None h = λ e. ⊎_elim (λ a. h e (inl a)) (λ c. ⊎_elim (λ b. h e (inr b)) (λ k. h k.0 (inl k.1)) (from e c))
  shadowed (Some x) h = record {
    stands = ⊎_elim (λ a. inl a) (λ b. ⊎_elim (λ c. inr c) (λ k. inl (subst A (one_least k.0 x k.2 (h.least k.0 (inl k.1))) k.1)) (to x b)) h.stands;
    least = λ other. ⊎_elim (λ a. h.least other (inl a)) (λ c. ⊎_elim (λ b. h.least other (inr b)) (λ k. further x k.0 other (h.least k.0 (inl k.1)) k.2) (from other c));
  }

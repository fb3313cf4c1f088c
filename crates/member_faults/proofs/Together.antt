-- Five rules asked of each element, or each of them of all elements.
use Rattle.std.proofs.Common.{inl, inr, ⊎_elim, List, Option, Result, IfOk}
use Rattle.ranked.specs.Entries.{Entry}
use Rattle.ranked.specs.First.{IsFirst, Among, Or, Below, At}
use Rattle.ranked.proofs.FirstLaws.{within_ok}

module _ {X : Type 0} (xs : List X) (A B C D E : X → Entry → Type 0) where
  abbrev Each : Entry → Type 0
  Each = Among xs (λ x. Or (A x) (Or (B x) (Or (C x) (Or (D x) (E x)))))

  abbrev All_ : Entry → Type 0
  All_ = Or (Among xs A) (Or (Among xs B) (Or (Among xs C) (Or (Among xs D) (Among xs E))))

  apart : (e : Entry) → Each e → All_ e
  unfolding Below At Or
  apart e h = ⊎_elim (λ a. inl (h.0, h.1, (h.2.0, h.2.1, a)))
      (λ r. inr (⊎_elim (λ b. inl (h.0, h.1, (h.2.0, h.2.1, b)))
      (λ r. inr (⊎_elim (λ c. inl (h.0, h.1, (h.2.0, h.2.1, c)))
      (λ r. inr (⊎_elim (λ d. inl (h.0, h.1, (h.2.0, h.2.1, d))) (λ f. inr (h.0, h.1, (h.2.0, h.2.1, f))) r)) r)) r)) h.2.2

  together : (e : Entry) → All_ e → Each e
  unfolding Below At Or
  together e h = ⊎_elim (λ a. (a.0, a.1, (a.2.0, a.2.1, inl a.2.2)))
      (λ r. ⊎_elim (λ b. (b.0, b.1, (b.2.0, b.2.1, inr (inl b.2.2))))
      (λ r. ⊎_elim (λ c. (c.0, c.1, (c.2.0, c.2.1, inr (inr (inl c.2.2)))))
      (λ r. ⊎_elim (λ d. (d.0, d.1, (d.2.0, d.2.1, inr (inr (inr (inl d.2.2))))))
      (λ f. (f.0, f.1, (f.2.0, f.2.1, inr (inr (inr (inr f.2.2)))))) r) r) r) h

  pub first_of_five : {F : Type 0} (r : Result (Option Entry) F) → IfOk r (IsFirst Each) → IfOk r (IsFirst All_)
  first_of_five r h = within_ok r Each All_ apart together h

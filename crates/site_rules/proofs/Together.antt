-- Two rules asked of each element, or each rule of all elements.
use Rattle.std.proofs.Common.{inl, inr, ⊎_elim, List}
use Rattle.ranked.specs.Entries.{Entry}
use Rattle.ranked.specs.First.{Among, Or, Below, At}

module _ {X : Type 0} (xs : List X) (A B : X → Entry → Type 0) where
  pub apart : (e : Entry) → Among xs (λ x. Or (A x) (B x)) e → Or (Among xs A) (Among xs B) e
  unfolding Below At Or
  apart e h = ⊎_elim (λ a. inl (h.0, h.1, (h.2.0, h.2.1, a))) (λ b. inr (h.0, h.1, (h.2.0, h.2.1, b))) h.2.2

  pub together : (e : Entry) → Or (Among xs A) (Among xs B) e → Among xs (λ x. Or (A x) (B x)) e
  unfolding Below At Or
  together e h = ⊎_elim (λ a. (a.0, a.1, (a.2.0, a.2.1, inl a.2.2))) (λ b. (b.0, b.1, (b.2.0, b.2.1, inr b.2.2))) h

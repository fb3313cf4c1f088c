-- Three passes ask the six limits.
use Rattle.std.proofs.Common.{List, Option, inl, inr}
use Rattle.ranked.specs.Entries.{Entry}
use Rattle.ranked.specs.First.{IsFirst, Or, Among, Below, At}
use Rattle.ranked.proofs.FirstLaws.{same}
use Rattle.wr_rules.specs.Sites.{Site}
use Rattle.wr_rules.specs.Limits.{Limits, IsManyUses}
use Rattle.set_limits.specs.Pass.{Past, TypesOrNames}
use Rattle.limits.specs.Single.{PastAlone}

module _ (sites : List Site) where
  abbrev Passes : Entry → Type 0
  Passes = Or (Or (Among sites PastAlone) (Past sites TypesOrNames)) (Past sites IsManyUses)

  to : (e : Entry) → Passes e → Limits sites e
  unfolding Or Below At
  to e (inl (inl (k, l, (s, at, inl m)))) = (k, l, (s, at, inr (inl m)))
  to e (inl (inl (k, l, (s, at, inr (inl p))))) = (k, l, (s, at, inr (inr (inl p))))
  to e (inl (inl (k, l, (s, at, inr (inr n))))) = (k, l, (s, at, inr (inr (inr (inl n)))))
  to e (inl (inr (k, l, (s, at, inl t)))) = (k, l, (s, at, inl t))
  to e (inl (inr (k, l, (s, at, inr n)))) = (k, l, (s, at, inr (inr (inr (inr (inl n))))))
  to e (inr (k, l, (s, at, u))) = (k, l, (s, at, inr (inr (inr (inr (inr u))))))

  from : (e : Entry) → Limits sites e → Passes e
  unfolding Or Below At
  from e (k, l, (s, at, inl t)) = inl (inr (k, l, (s, at, inl t)))
  from e (k, l, (s, at, inr (inl m))) = inl (inl (k, l, (s, at, inl m)))
  from e (k, l, (s, at, inr (inr (inl p)))) = inl (inl (k, l, (s, at, inr (inl p))))
  from e (k, l, (s, at, inr (inr (inr (inl n))))) = inl (inl (k, l, (s, at, inr (inr n))))
  from e (k, l, (s, at, inr (inr (inr (inr (inl n)))))) = inl (inr (k, l, (s, at, inr n)))
  from e (k, l, (s, at, inr (inr (inr (inr (inr u)))))) = inr (k, l, (s, at, u))

  pub limits_first : (r : Option Entry) → IsFirst Passes r → IsFirst (Limits sites) r
  limits_first r h = same Passes (Limits sites) r to from h

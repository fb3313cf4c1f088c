-- Graphs whose chains can be read off.
use Rattle.std.proofs.Common.{◌≡◌, ℕ, List, [], ◌∷◌, inl, ⊎_elim, refl, sym, subst, arith}
use Rattle.chains.specs.Graphs.{In, Chain, one, further, steps_of}
use Rattle.chains.specs.Closure.{Reached, start, onward}

-- 0 and 1 lead to each other
abbrev ring : List (List ℕ)
ring = (1 ∷ []) ∷ (0 ∷ []) ∷ []

-- 0 leads to 1, which leads nowhere
abbrev path : List (List ℕ)
path = (1 ∷ []) ∷ [] ∷ []

around : Chain ring 0 0
around = further (one (inl refl)) (inl refl)

ends_at_one : (c : ℕ) → Chain path 0 c → c ≡ 1
ends_at_one c (one step) = ⊎_elim (λ e. sym e) (λ n. absurd n) step
ends_at_one c (further chain step) = absurd (subst (λ b. In c (steps_of path b)) (ends_at_one _ chain) step)

-- a number of no ring doesn't come back, though it leads on
stays_away : ¬ (Chain path 0 0)
stays_away chain = let e : 0 ≡ 1 = ends_at_one 0 chain in omega (arith, e)

-- what a list leads to has the list, and what is two steps away
itself : Reached path (0 ∷ []) 0
itself = start (inl refl)

onwards : Reached path (0 ∷ []) 1
onwards = onward (start (inl refl)) (inl refl)

-- and not what only leads to it
never_back : (c : ℕ) → Reached path (1 ∷ []) c → c ≡ 1
never_back c (start here) = ⊎_elim (λ e. sym e) (λ n. absurd n) here
never_back c (onward reached step) = absurd (subst (λ b. In c (steps_of path b)) (never_back _ reached) step)

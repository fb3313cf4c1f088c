-- One entry for all of a list that pass a test.
use Rattle.std.proofs.Common.{◌≡◌, ◌||◌, ℕ, zero, suc, Bool, true, false, List, [], ◌∷◌, Option, Some, Result, Ok, Err, IfOk, slice_get, refl, sym, ap, subst, ◌∙◌}
use Rattle.std.specs.List.{list_any}
use Rattle.std.proofs.lemmas.Option.{none-some, same_Some, slice_get_within}
use Rattle.ranked.specs.Entries.{Entry}
use Rattle.ranked.specs.First.{IsFirst, Among, Below, At}
use Rattle.ranked.proofs.FirstLaws.{same}
use Rattle.wr_base.specs.declared.code.Code.{Code}
use Rattle.wr_rules.specs.Sites.{Spot, broken_at, If}
use Rattle.placed_sites.specs.Views.{give}
use Rattle.placed_sites.proofs.Firsts.{refused}

if_false : (code : Code) (spot : Spot) (e : Entry) → ¬ (If false code spot e)
unfolding If
if_false code spot e h = none-some e h

module _ {X : Type 0} (test : X → Bool) where
  found_at : (xs : List X) → list_any test xs ≡ true → (k : ℕ) × (x : X) × (slice_get xs k ≡ Some x) × (test x ≡ true)
  found_at [] h = cc
  found_at (x ∷ xs) h = elim (test x) as (λ b. test x ≡ b → (k : ℕ) × (y : X) × (slice_get (x ∷ xs) k ≡ Some y) × (test y ≡ true)) [
    | true ↦ λ t. (0, x, refl, t)
    | false ↦ λ t. (let r = found_at xs (ap (λ b. b || list_any test xs) (sym t) ∙ h) in (suc r.0, r.1, r.2, r.3))
  ] refl

  or_right : (a b : Bool) → b ≡ true → (a || b) ≡ true
  or_right true b e = refl
  or_right false b e = e

  any_at : (xs : List X) (k : ℕ) (x : X) → slice_get xs k ≡ Some x → test x ≡ true → list_any test xs ≡ true
  any_at [] k x e t = absurd (none-some x e)
  any_at (y ∷ ys) zero x e t = ap (λ b. b || list_any test ys) (ap test (same_Some y x e) ∙ t)
  any_at (y ∷ ys) (suc k) x e t = or_right (test y) (list_any test ys) (any_at ys k x e t)

  module _ (xs : List X) (code : Code) (spot : Spot) where
    to_each : (b : Bool) → list_any test xs ≡ b → (e : Entry) → If b code spot e → Among xs (λ x. If (test x) code spot) e
    unfolding Below At
    to_each true t e h = let r = found_at xs t in (r.0, slice_get_within xs r.0 r.1 r.2, (r.1, r.2, subst (λ b. If b code spot e) (sym r.3) h))
    to_each false t e h = absurd (if_false code spot e h)

    from_one : (x : X) (b : Bool) → test x ≡ b → (k : ℕ) → slice_get xs k ≡ Some x → (e : Entry) → If b code spot e → If (list_any test xs) code spot e
    from_one x true t k at e h = subst (λ b. If b code spot e) (sym (any_at xs k x at t)) h
    from_one x false t k at e h = absurd (if_false code spot e h)

    from_each : (e : Entry) → Among xs (λ x. If (test x) code spot) e → If (list_any test xs) code spot e
    unfolding Below At
    from_each e h = from_one h.2.0 (test h.2.0) refl h.0 h.2.1 e h.2.2

    each_of : {E : Type 0} (r : Result (Option Entry) E) → IfOk r (IsFirst (If (list_any test xs) code spot)) → IfOk r (IsFirst (Among xs (λ x. If (test x) code spot)))
    each_of (Err x) h = tt
    each_of (Ok o) h = same (If (list_any test xs) code spot) (Among xs (λ x. If (test x) code spot)) o (λ e i. to_each (list_any test xs) refl e i) from_each h

    -- a refusal where any passes
    pub refused_any : {E : Type 0} (r : Result (Option Entry) E) (told : Bool) → told ≡ list_any test xs → IfOk r (λ a. a ≡ give told (broken_at code spot))
        → IfOk r (IsFirst (Among xs (λ x. If (test x) code spot)))
    refused_any r told t h = each_of r (refused r told (list_any test xs) code spot spot t refl h)

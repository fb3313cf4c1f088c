-- Owners of ids, one after the other.
use Rattle.std.proofs.Common.{◌≡◌, ◌<◌, ◌+◌, ℕ, zero, suc, cond, List, [], ◌∷◌, ◌++◌, Option, Some, None, ◌⊎◌, inl, inr, ⊎_elim, Contains, length, take, get_or, slice_get, refl, sym, ap, subst, ◌∙◌, arith, nat_eq}
use Rattle.std.proofs.lemmas.Option.{none-some, same_Some, slice_get_within, slice_get-get_or}
use Rattle.std.proofs.lemmas.List.{take_more}
use Rattle.std.proofs.lemmas.List.Elements.{Contains-append_left, Contains-append_right, Contains-append_cases}
use Rattle.std.proofs.lemmas.Bool.Decides.{eqb_tells}
use Rattle.id_rules.specs.Reserved.{Owns}

none_of : (q : ℕ) → Contains [] q → ⊥
none_of q (k, l, e) = absurd (omega (arith, l))

one_of : (id q : ℕ) → Contains (id ∷ []) q → id ≡ q
one_of id q (zero, l, e) = e
one_of id q (suc k, l, e) = absurd (omega (arith, l))

pub owns_none : (f : ℕ → Option ℕ) (number : ℕ) → ((q : ℕ) → f q ≡ None) → Owns f number []
owns_none f number n q w = (λ e. absurd (none-some w (sym (n q) ∙ e)), λ h. absurd (none_of q h.1))

module _ (f g : ℕ → Option ℕ) (number id : ℕ) (u : (q : ℕ) → g q ≡ cond (nat_eq id q) (Some number) (f q)) where
  split : (q : ℕ) → ((id ≡ q) × (g q ≡ Some number)) ⊎ (g q ≡ f q)
  split q = ⊎_elim (λ t. inl (t.1, u q ∙ ap (λ b. cond b (Some number) (f q)) t.0)) (λ t. inr (u q ∙ ap (λ b. cond b (Some number) (f q)) t.0)) (eqb_tells id q)

  here : g id ≡ Some number
  here = ⊎_elim (λ a. u id ∙ ap (λ b. cond b (Some number) (f id)) a.0) (λ a. absurd (a.1 refl)) (eqb_tells id id)

  pub owns_more : (ids : List ℕ) → Owns f number ids → Owns g number (ids ++ id ∷ [])
  owns_more ids o q w = (λ e. to e, λ h. from h.0 h.1)
    where
      to : g q ≡ Some w → (w ≡ number) × Contains (ids ++ id ∷ []) q
      to e = ⊎_elim
          (λ a. (sym (same_Some number w (sym a.1 ∙ e)), Contains-append_right ids (id ∷ []) q (0, omega arith, a.0)))
          (λ a. (let h = (o q w).0 (sym a ∙ e) in (h.0, Contains-append_left ids (id ∷ []) q h.1)))
          (split q)

      from : w ≡ number → Contains (ids ++ id ∷ []) q → g q ≡ Some w
      from n c = ⊎_elim
          (λ h. ⊎_elim (λ a. a.1 ∙ ap (λ x. Some x) (sym n)) (λ a. a ∙ (o q w).1 (n, h)) (split q))
          (λ h. ap g (sym (one_of id q h)) ∙ here ∙ ap (λ x. Some x) (sym n))
          (Contains-append_cases ids (id ∷ []) q c)

pub owns_turn : (f g : ℕ → Option ℕ) (number id i : ℕ) (ids : List ℕ) → slice_get ids i ≡ Some id → ((q : ℕ) → g q ≡ cond (nat_eq id q) (Some number) (f q)) → Owns f number (take i ids) → Owns g number (take (i + 1) ids)
owns_turn f g number id i ids at u o =
    let l : i < length ids = slice_get_within ids i id at in
    subst (Owns g number) (sym (take_more ids i id l ∙ ap (λ x. take i ids ++ x ∷ []) (sym (same_Some id (get_or ids i id) (sym at ∙ slice_get-get_or ids i id l))))) (owns_more f g number id u (take i ids) o)

-- What is looked for in a sorted list stands in it as it did before.
use Rattle.std.proofs.Common.{◌≡◌, ℕ, ◌≤◌, Bool, true, false, leb, List, [], ◌∷◌, refl, sym, ap, subst, ◌∙◌, inl, inr}
use Rattle.std.specs.Prelude.{⊤}
use Rattle.std.specs.List.{filter, AllByRecursion}
use Rattle.std.proofs.lemmas.Bool.{le-leb}
use Rattle.winmd_lines.specs.Orders.{insert_by, sort_by}
use Rattle.winmd_lines.proofs.LineLaws.{either}

-- each comes at or before those behind it
abbrev pub Ascending : {A : Type 0} → (A → ℕ) → List A → Type 0
Ascending key [] = ⊤
Ascending key (x ∷ xs) = AllByRecursion (λ y. key x ≤ key y) xs × Ascending key xs

passed-over : {A : Type 0} (p : A → Bool) (key : A → ℕ) (x : A) (xs : List A) → p x ≡ false → filter p (insert_by key x xs) ≡ filter p xs
passed-over p key x [] h = rw h refl
passed-over p key x (y ∷ ys) h =
    elim (either (leb (key x) (key y))) [
      | inl e ↦ rw (e, h) refl
      | inr e ↦ elim (either (p y)) [
        | inl g ↦ rw (e, g) (ap (λ r. y ∷ r) (passed-over p key x ys h))
        | inr g ↦ rw (e, g) (passed-over p key x ys h)
      ]
    ]

stands_first : {A : Type 0} (p : A → Bool) (key : A → ℕ) (x : A) (xs : List A) → p x ≡ true → AllByRecursion (λ y. key x ≤ key y) (filter p xs) → filter p (insert_by key x xs) ≡ x ∷ filter p xs
stands_first p key x [] h all = rw h refl
stands_first p key x (y ∷ ys) h all =
    elim (either (leb (key x) (key y))) [
      | inl e ↦ rw (e, h) refl
      | inr e ↦ elim (either (p y)) [
        | inl g ↦ absurd (let both = rw g at all in let t : leb (key x) (key y) ≡ true = le-leb _ _ both.0 in cc)
        | inr g ↦ (let later = rw g at all in rw (e, g) (stands_first p key x ys h later))
      ]
    ]

pub sorted_keeps : {A : Type 0} (p : A → Bool) (key : A → ℕ) (xs : List A) → Ascending key (filter p xs) → filter p (sort_by key xs) ≡ filter p xs
sorted_keeps p key [] h = refl
sorted_keeps p key (x ∷ xs) h =
    elim (either (p x)) [
      | inl e ↦
          let both = rw e at h in
          let rest = sorted_keeps p key xs both.1 in
          let all : AllByRecursion (λ y. key x ≤ key y) (filter p (sort_by key xs)) = subst (λ r. AllByRecursion (λ y. key x ≤ key y) r) (sym rest) both.0 in
          stands_first p key x (sort_by key xs) e all ∙ rw (e, rest) refl
      | inr e ↦
          let rest = sorted_keeps p key xs (rw e at h) in
          passed-over p key x (sort_by key xs) e ∙ rw (e, rest) refl
    ]

-- Instances that are added one by one stand once, in the order in which they are first used.
use Rattle.std.proofs.Common.{◌≡◌, Bool, true, false, List, [], ◌∷◌, ◌++◌, refl, sym, ap, ◌∙◌, append_assoc, append-nil, inl, inr}
use Rattle.std.specs.Prelude.{◌||◌, ◌&&◌, not}
use Rattle.std.specs.List.{list_any, filter}
use Rattle.std.proofs.lemmas.List.Folds.{list_any-append}
use Rattle.wr_base.specs.Trees.{UseTree, same_use}
use Rattle.wr_base.proofs.TreeLaws.{same_use-is, same_use-refl}
use Rattle.winmd_uses.proofs.TakeLaws.{either}
use Rattle.winmd_sets.specs.Rows.{once}
use Rattle.winmd_uses.specs.Instances.{add_once}
use Rattle.winmd_uses.specs.Takes.{add_each}

without_two : {A : Type 0} (p q r : A → Bool) → ((y : A) → r y ≡ (q y && p y)) → (ys : List A) → filter p (filter q ys) ≡ filter r ys
without_two p q r h [] = refl
without_two p q r h (y ∷ ys) =
    elim (either (q y)) [
      | inl e ↦ elim (either (p y)) [
        | inl g ↦ rw (h y, e, g) (ap (λ zs. y ∷ zs) (without_two p q r h ys))
        | inr g ↦ rw (h y, e, g) (without_two p q r h ys)
      ]
      | inr e ↦ rw (h y, e) (without_two p q r h ys)
    ]

all_pass : {A : Type 0} (p : A → Bool) → ((y : A) → p y ≡ true) → (ys : List A) → filter p ys ≡ ys
all_pass p h [] = refl
all_pass p h (y ∷ ys) = rw (h y) (ap (λ zs. y ∷ zs) (all_pass p h ys))

same_turned : (u v : UseTree) → same_use u v ≡ same_use v u
same_turned u v =
    elim (either (same_use u v)) [
      | inl e ↦ e ∙ sym (let is : v ≡ u = sym (same_use-is u v e) in ap (same_use v) (sym is) ∙ same_use-refl v)
      | inr e ↦ elim (either (same_use v u)) [
        | inl g ↦ absurd (let is : u ≡ v = sym (same_use-is v u g) in let t : same_use u v ≡ true = ap (same_use u) (sym is) ∙ same_use-refl u in cc)
        | inr g ↦ e ∙ sym g
      ]
    ]

not_there_more : (us : List UseTree) (x y : UseTree) → not (list_any (same_use y) (us ++ x ∷ [])) ≡ (not (same_use x y) && not (list_any (same_use y) us))
not_there_more us x y = ap not (list_any-append (same_use y) us (x ∷ [])) ∙ ap (λ (b : Bool). not (list_any (same_use y) us || (b || false))) (same_turned y x) ∙ turned (list_any (same_use y) us) (same_use x y)
  where
    turned : (a b : Bool) → not (a || (b || false)) ≡ (not b && not a)
    turned true true = refl
    turned true false = refl
    turned false true = refl
    turned false false = refl

there_already : (us : List UseTree) (x y : UseTree) → list_any (same_use x) us ≡ true → not (list_any (same_use y) us) ≡ (not (same_use x y) && not (list_any (same_use y) us))
there_already us x y e =
    elim (either (same_use x y)) [
      | inl g ↦ (let is : x ≡ y = same_use-is x y g in let t : list_any (same_use y) us ≡ true = ap (λ (z : UseTree). list_any (same_use z) us) (sym is) ∙ e in rw (g, t) refl)
      | inr g ↦ rw g refl
    ]

pub added_are : (us xs : List UseTree) → add_each us xs ≡ us ++ filter (λ y. not (list_any (same_use y) us)) (once xs)
added_are us [] = sym (append-nil us)
added_are us (x ∷ xs) =
    elim (either (list_any (same_use x) us)) [
      | inl e ↦
          let known : add_once us x ≡ us = rw e refl in
          ap (λ (vs : List UseTree). add_each vs xs) known ∙ added_are us xs
          ∙ ap (λ (vs : List UseTree). us ++ vs) (sym (without_two (λ y. not (list_any (same_use y) us)) (λ y. not (same_use x y)) (λ y. not (list_any (same_use y) us)) (λ y. there_already us x y e) (once xs)))
          ∙ rw e refl
      | inr e ↦
          let new : add_once us x ≡ us ++ x ∷ [] = rw e refl in
          ap (λ (vs : List UseTree). add_each vs xs) new ∙ added_are (us ++ x ∷ []) xs
          ∙ append_assoc us (x ∷ []) (filter (λ y. not (list_any (same_use y) (us ++ x ∷ []))) (once xs))
          ∙ ap (λ (vs : List UseTree). us ++ x ∷ vs) (sym (without_two (λ y. not (list_any (same_use y) us)) (λ y. not (same_use x y)) (λ y. not (list_any (same_use y) (us ++ x ∷ []))) (λ y. not_there_more us x y) (once xs)))
          ∙ rw e refl
    ]

pub added_once : (xs : List UseTree) → add_each [] xs ≡ once xs
added_once xs = added_are [] xs ∙ all_pass (λ y. not (list_any (same_use y) [])) (λ y. refl) (once xs)

-- Parts with their places, one by one.
use Rattle.std.proofs.Common.{◌≡◌, ◌≤◌, ◌+◌, ℕ, zero, suc, List, [], ◌∷◌, ◌++◌, Some, length, take, slice_get, refl, ap, ◌∙◌, arith}
use Rattle.std.proofs.lemmas.Option.{none-some, same_Some, slice_get_within, get_or_from_slice_get}
use Rattle.std.proofs.lemmas.List.{take_more}
use Rattle.ranked.specs.declared.place.Place.{Place}
use Rattle.wr_rules.specs.Sites.{Site, part_spot}
use Rattle.wr_rules.specs.Members.{standing}

module _ {X : Type 0} (s : Site) (name : X → List ℕ) where
  pub standing_at : (xs : List X) (places : List Place) (i : ℕ) (x : X) (p : Place) → slice_get xs i ≡ Some x → slice_get places i ≡ Some p
      → slice_get (standing s name xs places) i ≡ Some (record { part = x; spot = part_spot s p (name x) })
  standing_at [] places i x p e f = absurd (none-some x e)
  standing_at (y ∷ ys) [] i x p e f = absurd (none-some p f)
  standing_at (y ∷ ys) (q ∷ qs) zero x p e f =
      ap (λ (z : X). Some (record { part = z; spot = part_spot s q (name z) })) (same_Some y x e) ∙ ap (λ (z : Place). Some (record { part = x; spot = part_spot s z (name x) })) (same_Some q p f)
  standing_at (y ∷ ys) (q ∷ qs) (suc i) x p e f = standing_at ys qs i x p e f

  pub by_parts : (xs : List X) (places : List Place) → length xs ≤ length places → length (standing s name xs places) ≡ length xs
  by_parts [] places e = refl
  by_parts (x ∷ xs) [] e = absurd (omega (arith, e))
  by_parts (x ∷ xs) (y ∷ ys) e = let h = by_parts xs ys (omega (arith, e)) in omega (arith, h)

  pub by_places : (xs : List X) (places : List Place) → length places ≤ length xs → length (standing s name xs places) ≡ length places
  by_places [] [] e = refl
  by_places [] (y ∷ ys) e = absurd (omega (arith, e))
  by_places (x ∷ xs) [] e = refl
  by_places (x ∷ xs) (y ∷ ys) e = let h = by_places xs ys (omega (arith, e)) in omega (arith, h)

-- one more of the first ones
pub one_further : {X : Type 0} (xs : List X) (i : ℕ) (x : X) → slice_get xs i ≡ Some x → take (i + 1) xs ≡ take i xs ++ x ∷ []
one_further {X} xs i x e = take_more xs i x (slice_get_within xs i x e) ∙ ap (λ (y : X). take i xs ++ y ∷ []) (get_or_from_slice_get xs i x x e)

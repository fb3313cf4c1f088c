-- One more element of a list, through a function.
use Rattle.std.proofs.Common.{◌≡◌, ℕ, ◌+◌, ◌<◌, List, [], ◌∷◌, ◌++◌, map, take, get_or, length, sym, ap, subst, ◌∙◌}
use Rattle.std.specs.List.{All}
use Rattle.std.proofs.lemmas.List.{map_more}
use Rattle.std.proofs.lemmas.List.Elements.{All-push}

module _ {X Y : Type 0} (f : X → Y) (xs : List X) (i : ℕ) (x : X) (e : x ≡ get_or xs i x) (l : i < length xs) where
  pub taken : map f (take (i + 1) xs) ≡ map f (take i xs) ++ f x ∷ []
  taken = map_more f xs i x l ∙ ap (λ y. map f (take i xs) ++ f y ∷ []) (sym e)

  pub all_taken : (P : Y → Type 0) → All P (map f (take i xs)) → P (f x) → All P (map f (take (i + 1) xs))
  all_taken P here more = subst (All P) (sym taken) (All-push P (map f (take i xs)) (f x) here more)

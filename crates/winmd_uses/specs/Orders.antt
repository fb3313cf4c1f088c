-- Names in order.
use Rattle.std.specs.Prelude.{◌≡◌, ℕ, ⊤, List, [], ◌∷◌}
use Rattle.std.specs.List.{AllByRecursion}
use Rattle.std.specs.Ordering.{nat_cmp}
use Rattle.std.specs.Cmp.Lexicographic.{slice_cmp}
use Rattle.std.specs.declared.cmp.Ordering.TheVariants.{Less}

-- each name comes before all behind it
abbrev pub Rises : List (List ℕ) → Type 0
Rises [] = ⊤
Rises (x ∷ xs) = AllByRecursion (λ y. slice_cmp nat_cmp x y ≡ Less) xs × Rises xs

-- What stands before and behind the last mark of a text.
use Rattle.std.specs.Prelude.{ℕ, Bool, ◌==◌, if◌then◌else◌, List, [], ◌∷◌}
use Rattle.std.specs.List.{list_any}

-- the mark stands in the text
abbrev pub has : ℕ → List ℕ → Bool
has mark = list_any (λ b. b == mark)

-- the bytes up to the last mark, with it; none where there is no mark
abbrev pub up_to_last : ℕ → List ℕ → List ℕ
up_to_last mark [] = []
up_to_last mark (b ∷ bs) = if has mark (b ∷ bs) then b ∷ up_to_last mark bs else []

-- the bytes before the last mark; none where there is no mark. Of a full name and the dot, the namespace
abbrev pub before_last : ℕ → List ℕ → List ℕ
before_last mark [] = []
before_last mark (b ∷ bs) = if has mark bs then b ∷ before_last mark bs else []

-- the bytes behind the last mark; all of them where there is no mark. Of a full name and the dot, the name
abbrev pub behind_last : ℕ → List ℕ → List ℕ
behind_last mark [] = []
behind_last mark (b ∷ bs) = if has mark (b ∷ bs) then behind_last mark bs else b ∷ bs

-- Lists in the order of a key.
use Rattle.std.specs.Prelude.{◌≡◌, ⊤, ℕ, List, [], ◌∷◌, if◌then◌else◌}
use Rattle.std.specs.Prelude.{nat_le}
use Rattle.std.specs.Ordering.{nat_cmp}
use Rattle.std.specs.Cmp.Lexicographic.{slice_cmp}
use Rattle.std.specs.declared.cmp.Ordering.{Ordering}
use Rattle.std.specs.declared.cmp.Ordering.TheVariants.{Less, Equal, Greater}

-- ---- rows in order

-- an item behind those that don't come after it
abbrev pub insert_by : {A : Type 0} → (A → ℕ) → A → List A → List A
insert_by key x [] = x ∷ []
insert_by key x (y ∷ ys) = if nat_le (key x) (key y) then x ∷ y ∷ ys else y ∷ insert_by key x ys

-- in the order of a key; items of one key stay as they stand
abbrev pub sort_by : {A : Type 0} → (A → ℕ) → List A → List A
sort_by key [] = []
sort_by key (x ∷ xs) = insert_by key x (sort_by key xs)

abbrev pub placed_once : {A : Type 0} → Ordering → A → A → List A → List A → List A
placed_once Less x y ys inserted = x ∷ y ∷ ys
placed_once Equal x y ys inserted = x ∷ ys
placed_once Greater x y ys inserted = y ∷ inserted

-- an item in the order of keys; of those of one key the first stands
abbrev pub insert_once : {A : Type 0} → (A → List ℕ) → A → List A → List A
insert_once key x [] = x ∷ []
insert_once key x (y ∷ ys) = placed_once (slice_cmp nat_cmp (key x) (key y)) x y ys (insert_once key x ys)

-- in the order of keys by bytes, each key once
abbrev pub set_by : {A : Type 0} → (A → List ℕ) → List A → List A
set_by key [] = []
set_by key (x ∷ xs) = insert_once key x (set_by key xs)

-- each key comes before the next
abbrev pub Rising : {A : Type 0} → (A → List ℕ) → List A → Type 0
Rising key [] = ⊤
Rising key (x ∷ []) = ⊤
Rising key (x ∷ y ∷ ys) = (slice_cmp nat_cmp (key x) (key y) ≡ Less) × Rising key (y ∷ ys)

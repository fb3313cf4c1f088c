-- Declarations in the order of their names: neighbours that differ, and one of each name.
use Rattle.std.specs.Prelude.{◌≡◌, ◌-◌, ◌++◌, ℕ, Bool, false, ⊤, List, [], ◌∷◌, Option, Some, None, ◌⊎◌, slice_get, length, fold, if◌then◌else◌}
use Rattle.std.specs.Str.{bytes_eq}
use Rattle.wr_base.specs.Declarations.{name_of}
use Rattle.wr_base.specs.declared.declaration.Declaration.{Declaration}

-- of one name, and different
pub record Differ (a b : Declaration) : Type 0 where
  pub named : name_of a ≡ name_of b
  pub apart : a ≡ b → ⊥

-- of one name only where they are one
abbrev pub Agree : Declaration → Declaration → Type 0
Agree a b = name_of a ≡ name_of b → a ≡ b

-- each agrees with the next one
abbrev pub AllAgree : Declaration → List Declaration → Type 0
AllAgree d [] = ⊤
AllAgree d (e ∷ es) = Agree d e × AllAgree e es

-- the first that differs from the next one has this name
abbrev pub FirstDiffers : Declaration → List Declaration → List ℕ → Type 0
FirstDiffers d [] name = ⊥
FirstDiffers d (e ∷ es) name = (Differ d e × (name_of d ≡ name)) ⊎ (Agree d e × FirstDiffers e es name)

-- of the whole list
abbrev pub ListAgrees : List Declaration → Type 0
ListAgrees [] = ⊤
ListAgrees (d ∷ ds) = AllAgree d ds

abbrev pub ListDiffers : List Declaration → List ℕ → Type 0
ListDiffers [] name = ⊥
ListDiffers (d ∷ ds) name = FirstDiffers d ds name

abbrev pub is_named : Option Declaration → List ℕ → Bool
is_named None name = false
is_named (Some d) name = bytes_eq (name_of d) name

-- the last one has this name
abbrev pub ends_with : List Declaration → List ℕ → Bool
ends_with list name = is_named (slice_get list (length list - 1)) name

-- one more, unless the last one has its name
abbrev pub put : List Declaration → Declaration → List Declaration
put list d = if ends_with list (name_of d) then list else list ++ d ∷ []

-- one of each name
abbrev pub firsts : List Declaration → List Declaration
firsts list = fold put [] list

-- What is left of a declaration and its parts where places are left out.
use Rattle.std.specs.Prelude.{◌≡◌, ℕ, List, map, length}
use Rattle.wr_base.specs.Places.{part_count}
use Rattle.wr_base.specs.Trees.{UseTree}
use Rattle.wr_base.specs.declared.declaration.Declaration.{Declaration}
use Rattle.wr_base.specs.declared.places.DeclPlaces.{DeclPlaces}
use Rattle.wr_rules.specs.Sites.{Site}
use Rattle.wr_rules.specs.Uses.{Role, Used}

-- a place for each declaration and for each of its parts
abbrev pub FitPlaces : List Declaration → List DeclPlaces → Type 0
FitPlaces types places = map (λ (p : DeclPlaces). length p.parts) places ≡ map part_count types

-- a declaration, and how many of its parts have places
pub record Shape : Type 0 where
  pub decl : Declaration
  pub parts : ℕ

abbrev pub shape : Site → Shape
shape s = record { decl = s.decl; parts = length s.places.parts }

-- a use in its role
pub record Bare : Type 0 where
  pub role : Role
  pub use_ : UseTree

abbrev pub bare : Used → Bare
bare u = record { role = u.role; use_ = u.use_ }

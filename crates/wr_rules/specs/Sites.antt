-- Declarations and their parts where they stand, and the entries that are broken there.
use Rattle.std.specs.Prelude.{ℕ, Bool, ◌<◌, ◌≡◌, ◌⊎◌, List, [], ◌∷◌, ◌++◌, Some, None, slice_get, if◌then◌else◌}
use Rattle.ranked.specs.Entries.{Entry}
use Rattle.ranked.specs.declared.place.Place.{Place}
use Rattle.wr_base.specs.Codes.{rank_of}
use Rattle.wr_base.specs.Declarations.{name_of}
use Rattle.wr_base.specs.declared.code.Code.{Code}
use Rattle.wr_base.specs.declared.declaration.Declaration.{Declaration}
use Rattle.wr_base.specs.declared.places.DeclPlaces.{DeclPlaces}

-- where something stands, and its name as a refusal gives it
pub record Spot : Type 0 where
  pub place : Place
  pub word : List ℕ

-- a declaration with the places of itself and of its parts
pub record Site : Type 0 where
  pub decl : Declaration
  pub places : DeclPlaces

-- all declarations, each with its places
abbrev pub sites_of : List Declaration → List DeclPlaces → List Site
sites_of [] places = []
sites_of (d ∷ ds) [] = []
sites_of (d ∷ ds) (p ∷ ps) = record { decl = d; places = p } ∷ sites_of ds ps

-- the full name
abbrev pub site_name : Site → List ℕ
site_name s = name_of s.decl

-- a declaration stands at its place under its full name
abbrev pub spot_of : Site → Spot
spot_of s = record { place = s.places.at; word = site_name s }

-- a part of a declaration: its own name behind the declaration's
abbrev pub part_spot : Site → Place → List ℕ → Spot
part_spot s place name = record { place = place; word = site_name s ++ 46 ∷ name }

-- the entry of a code at a spot
abbrev pub broken_at : Code → Spot → Entry
broken_at code spot = record { file = spot.place.file; offset = spot.place.offset; code = rank_of code; word = spot.word }

-- by file, then by offset
abbrev pub place_before : Place → Place → Type 0
place_before p q = (p.file < q.file) ⊎ ((p.file ≡ q.file) × (p.offset < q.offset))

-- one declaration stands before another: by place, and at one place by name
abbrev pub StandsBefore : List Site → ℕ → ℕ → Type 0
StandsBefore sites j k =
    (s : Site) × (t : Site) × (slice_get sites j ≡ Some s) × (slice_get sites k ≡ Some t)
    × (place_before s.places.at t.places.at ⊎ ((s.places.at ≡ t.places.at) × (j < k)))

-- broken at this spot, where the test says so
unfoldable pub If : Bool → Code → Spot → Entry → Type 0
If test code spot e = (if test then Some (broken_at code spot) else None) ≡ Some e

-- Places of types that come from no file: numbers in order.
use Rattle.std.specs.Prelude.{ℕ, zero, suc, ◌+◌, List, [], ◌∷◌, length}
use Rattle.wr_base.specs.declared.declaration.Declaration.{Declaration}
use Rattle.wr_base.specs.declared.declaration.Declaration.TheVariants.{Enum, Struct, Delegate, Interface, Class}
use Rattle.ranked.specs.declared.place.Place.{Place}
use Rattle.wr_base.specs.declared.places.DeclPlaces.{DeclPlaces}

-- how many members, cases or fields
abbrev pub part_count : Declaration → ℕ
part_count (Enum name version flags cases) = length cases
part_count (Struct name version fields) = length fields
part_count (Delegate name version id invoke) = 0
part_count (Interface name version id owner requires_ members) = length members
part_count (Class name version fixed default has direct factories statics) = 0

-- so many places from this number on
abbrev pub numbered : ℕ → ℕ → List Place
numbered from zero = []
numbered from (suc n) = record { file = 0; offset = from } ∷ numbered (from + 1) n

-- declarations and parts together
abbrev pub total : List Declaration → ℕ
total [] = 0
total (d ∷ ds) = 1 + part_count d + total ds

-- a declaration at this number, its parts right behind it
abbrev pub placed : ℕ → Declaration → DeclPlaces
placed n d = record { at = record { file = 0; offset = n }; parts = numbered (n + 1) (part_count d) }

-- declarations and their parts in order, from this number on
abbrev pub plain_from : ℕ → List Declaration → List DeclPlaces
plain_from n [] = []
plain_from n (d ∷ ds) = placed n d ∷ plain_from (n + 1 + part_count d) ds

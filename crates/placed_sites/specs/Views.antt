-- What a site and a spot of the program stand for.
use Rattle.std.specs.Prelude.{ℕ, Bool, List, ◌∷◌, ◌++◌, Option, Some, None, if◌then◌else◌}
use Rattle.std.specs.Option.{option_copied}
use Rattle.ranked.specs.Entries.{Entry}
use Rattle.wr_rules.specs.Sites as sites
use Rattle.placed_sites.specs.declared.site.Site.{Site}
use Rattle.placed_sites.specs.declared.spot.Spot.{Spot}

-- the declaration with its places
abbrev pub site_view : Site → sites.Site
site_view s = record { decl = s.declaration.now; places = s.places.now }

-- the name of a declaration, or of a part behind it
abbrev pub word_of : List ℕ → Option (List ℕ) → List ℕ
word_of declaration None = declaration
word_of declaration (Some part) = declaration ++ 46 ∷ part

-- the place with the name that a refusal gives
abbrev pub spot_view : Spot → sites.Spot
spot_view s = record { place = s.place; word = word_of s.declaration.now (option_copied s.part) }

-- the entry, where it is broken
abbrev pub give : Bool → Entry → Option Entry
give broken e = if broken then Some e else None

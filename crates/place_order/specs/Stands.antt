-- Where declarations stand, and their order.
use Rattle.std.specs.Prelude.{◌+◌, ℕ, List, [], ◌∷◌, Option, Some, None, slice_get}
use Rattle.std.specs.Ordering.{nat_cmp}
use Rattle.std.specs.List.Sorted.{IsPermutation, IsSortedByKey}
use Rattle.std.specs.Cmp.Lexicographic.{slice_cmp}
use Rattle.wr_rules.specs.Sites.{Site}
use Rattle.place_order.specs.declared.stands.Stand.{Stand}

-- by file, offset and number
abbrev pub key : Stand → List ℕ
key x = x.place.file ∷ x.place.offset ∷ x.number ∷ []

-- where declarations stand that are numbered from here on
abbrev pub stands_from : ℕ → List Site → List Stand
stands_from n [] = []
stands_from n (s ∷ ss) = record { place = s.places.at; number = n } ∷ stands_from (n + 1) ss

-- where all declarations stand
abbrev pub stands_of : List Site → List Stand
stands_of sites = stands_from 0 sites

-- the same, in order
pub record IsPlaceOrder (sites : List Site) (stands : List Stand) : Type 0 where
  pub permutation : IsPermutation (stands_of sites) stands
  pub sorted : IsSortedByKey key (slice_cmp nat_cmp) stands

-- what is counted at a site, where there is one
abbrev pub counted : (Site → ℕ) → Option Site → ℕ
counted count None = 0
counted count (Some s) = count s

-- what is counted at the declaration that stands there
abbrev pub count_at : (Site → ℕ) → List Site → Stand → ℕ
count_at count sites x = counted count (slice_get sites x.number)

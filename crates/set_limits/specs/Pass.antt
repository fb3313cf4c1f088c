-- Limits that a set passes at a declaration.
use Rattle.std.specs.Prelude.{◌≡◌, ◌==◌, ◌&&◌, nat_le, nat_lt, ℕ, List, Some, length, slice_get}
use Rattle.ranked.specs.Entries.{Entry}
use Rattle.ranked.specs.First.{Below, At, Or}
use Rattle.wr_base.specs.declared.code.Code.TheVariants.{ManyTypes, ManyNames}
use Rattle.wr_rules.specs.Sites.{Site, spot_of, If}
use Rattle.wr_rules.specs.Limits.{before, IsManyTypes, IsManyNames}
use Rattle.place_order.specs.declared.stands.Stand.{Stand}

-- broken at the site at k by a limit that knows the sites that stand before
abbrev pub PastAt : List Site → (List Site → Site → Entry → Type 0) → ℕ → Entry → Type 0
PastAt sites limit k = At sites (λ s. limit (before k s.places.at sites) s) k

-- broken by such a limit at a declaration of the set
abbrev pub Past : List Site → (List Site → Site → Entry → Type 0) → Entry → Type 0
Past sites limit = Below (length sites) (PastAt sites limit)

-- too many types, or too many names
abbrev pub TypesOrNames : List Site → Site → Entry → Type 0
TypesOrNames earlier s = Or (IsManyTypes earlier s) (IsManyNames earlier s)

-- the site of the declaration that stands at this place of the order
pub record IsStep (sites : List Site) (stands : List Stand) (i : ℕ) (s : Site) : Type 0 where
  pub stand : Stand
  pub there : slice_get stands i ≡ Some stand
  pub at : slice_get sites stand.number ≡ Some s

-- broken there, where so many types stand before, and so many names, and with it the next number of them
abbrev pub PastBy : ℕ → ℕ → ℕ → Site → Entry → Type 0
PastBy place names next s = Or (If (place == 20000) ManyTypes (spot_of s)) (If (nat_le names 500000 && nat_lt 500000 next) ManyNames (spot_of s))

-- broken at the declaration that stands at this place of the order
abbrev pub AtOrder : List Site → List Stand → (List Site → Site → Entry → Type 0) → ℕ → Entry → Type 0
AtOrder sites stands limit i e = (x : Stand) × (s : Site) × (slice_get stands i ≡ Some x) × (slice_get sites x.number ≡ Some s) × limit (before x.number s.places.at sites) s e

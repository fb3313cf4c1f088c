-- What the pass has met at the first ones in the order of places.
use Rattle.std.specs.Prelude.{◌≡◌, ℕ, Bool, false, List, Option, Some, None, slice_get, take}
use Rattle.std.specs.List.{list_any}
use Rattle.std.specs.Str.{bytes_eq}
use Rattle.std.specs.HashSet.{contains_text}
use Rattle.ranked.specs.Entries.{Entry}
use Rattle.ranked.specs.First.{Only}
use Rattle.wr_base.specs.declared.code.Code.TheVariants.{NamespaceClash}
use Rattle.wr_base.specs.Lower.{lower}
use Rattle.wr_rules.specs.Sites.{Site, site_name, spot_of, broken_at}
use Rattle.wr_rules.specs.NameRules.{NamesClash}
use Rattle.place_order.specs.declared.stands.Stand.{Stand}
use Rattle.namespace_rules.specs.Spaces.{Texts}

-- there is a site, and its name in lower case is this text
abbrev pub has_name : List ℕ → Option Site → Bool
has_name text None = false
has_name text (Some s) = bytes_eq (lower (site_name s)) text

-- the same of the declaration that stands there
abbrev pub is_named : List Site → List ℕ → Stand → Bool
is_named sites text x = has_name text (slice_get sites x.number)

-- the set has the names of the first ones, in lower case
abbrev pub HasMet : List Site → List Stand → ℕ → Texts → Type 0
HasMet sites stands i set = (text : List ℕ) → contains_text set text ≡ list_any (is_named sites text) (take i stands)

-- broken at the declaration that stands at this place of the order
abbrev pub ClashAt : List Site → List Stand → ℕ → Entry → Type 0
ClashAt sites stands i e = (x : Stand) × (s : Site) × (slice_get stands i ≡ Some x) × (slice_get sites x.number ≡ Some s) × Only (NamesClash sites x.number (site_name s)) (broken_at NamespaceClash (spot_of s)) e

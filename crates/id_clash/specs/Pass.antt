-- What the pass has met at the first declarations in the order of places.
use Rattle.std.specs.Prelude.{◌≡◌, ◌⊎◌, ◌↔◌, ◌<◌, ℕ, Bool, IsTrue, List, Some, Contains, slice_get}
use Rattle.ranked.specs.Entries.{Entry}
use Rattle.ranked.specs.First.{Only}
use Rattle.wr_base.specs.Paths.{is_path}
use Rattle.wr_base.specs.declared.code.Code.TheVariants.{DuplicateId}
use Rattle.wr_base.specs.declared.declaration.Declaration.{Declaration}
use Rattle.wr_rules.specs.Sites.{Site, site_name, spot_of, broken_at}
use Rattle.wr_rules.specs.NameRules.{reserved_ids, UsesText, Stands, IsTaken}
use Rattle.place_order.specs.declared.stands.Stand.{Stand}

module _ (types : List Declaration) (sites : List Site) (stands : List Stand) where
  -- one of the first has this id
  abbrev pub HadBefore : ℕ → ℕ → Type 0
  HadBefore i id = (p : ℕ) × (x : Stand) × (text : List ℕ) × (p < i) × (slice_get stands p ≡ Some x) × Stands types sites x.number text id

  -- one of the first uses an instance of this text
  abbrev pub UsedBefore : ℕ → List ℕ → Type 0
  UsedBefore i text = (p : ℕ) × (x : Stand) × (p < i) × (slice_get stands p ≡ Some x) × UsesText sites x.number text

  -- had are the reserved ids and those of the first, met are the texts of the instances that they use, and their names are paths
  pub record Passed (i : ℕ) (had : ℕ → Bool) (met : List ℕ → Bool) : Type 0 where
    pub ids : (id : ℕ) → IsTrue (had id) ↔ (Contains reserved_ids id ⊎ HadBefore i id)
    pub texts : (text : List ℕ) → IsTrue (met text) ↔ UsedBefore i text
    pub paths : (p : ℕ) (x : Stand) (s : Site) → p < i → slice_get stands p ≡ Some x → slice_get sites x.number ≡ Some s → IsTrue (is_path (site_name s))

  -- broken at the declaration that stands at this place of the order
  abbrev pub TakenAt : ℕ → Entry → Type 0
  TakenAt i e = (x : Stand) × (s : Site) × (slice_get stands i ≡ Some x) × (slice_get sites x.number ≡ Some s) × Only (IsTaken types sites x.number) (broken_at DuplicateId (spot_of s)) e

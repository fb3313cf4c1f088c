-- From the first entry that is broken to the answer.
use Rattle.std.proofs.Common.{◌≡◌, List, Some, None}
use Rattle.std.proofs.lemmas.Option.{none-some, same_Some}
use Rattle.ranked.specs.Entries.{Entry}
use Rattle.ranked.specs.First.{IsFirst, Clear}
use Rattle.ranked.proofs.FirstLaws.{unique}
use Rattle.wr_base.specs.Places.{plain_from}
use Rattle.wr_base.specs.declared.declaration.Declaration.{Declaration}
use Rattle.wr_base.specs.declared.places.DeclPlaces.{DeclPlaces}
use Rattle.wr_rules.specs.Accepted.{Accepted, Broken, Proper}
use Rattle.place_laws.specs.Shapes.{FitPlaces}
use Rattle.place_laws.proofs.AllMoves.{clear_anywhere, plain_fits}

module _ (types : List Declaration) (places : List DeclPlaces) where
  pub cleared : IsFirst (Broken types places) None → Clear (Broken types places)
  unfolding IsFirst Clear
  cleared h = h

  pub none_first : (e : Entry) → IsFirst (Broken types places) None → IsFirst (Broken types places) (Some e) → ⊥
  none_first e h f = none-some e (unique (Broken types places) None (Some e) h f)

  pub one_first : (e x : Entry) → IsFirst (Broken types places) (Some x) → IsFirst (Broken types places) (Some e) → x ≡ e
  one_first e x h f = same_Some x e (unique (Broken types places) (Some x) (Some e) h f)

  pub not_clear : (x : Entry) → IsFirst (Broken types places) (Some x) → Clear (Broken types places) → ⊥
  unfolding IsFirst Clear
  not_clear x h clear = clear x h.stands

  module _ (fit : FitPlaces types places) where
    pub accepted : Proper types → IsFirst (Broken types places) None → Accepted types
    accepted proper h = record { proper = proper; clear = clear_anywhere types places (plain_from 0 types) fit (plain_fits 0 types) (cleared h) }

    pub not_accepted : (x : Entry) → IsFirst (Broken types places) (Some x) → Accepted types → ⊥
    not_accepted x h accepted = not_clear x h (clear_anywhere types (plain_from 0 types) places (plain_fits 0 types) fit accepted.clear)

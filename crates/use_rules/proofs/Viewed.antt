-- First entries along a list that is seen through a function.
use Rattle.std.proofs.Common.{◌≡◌, ◌+◌, ◌<◌, ℕ, List, Option, map, length, get_or, refl, ap, ◌∙◌, sym}
use Rattle.std.specs.Option.{option_map}
use Rattle.std.proofs.lemmas.Option.{slice_get-map, slice_get_read}
use Rattle.std.proofs.lemmas.List.{length-map}
use Rattle.ranked.specs.Entries.{Entry, earlier_of}
use Rattle.ranked.specs.First.{IsFirst, Below, At}
use Rattle.ranked.proofs.FirstLaws.{one_more_as, at_element, finished}

module _ {X Y : Type 0} (view : X → Y) (xs : List X) (broken : Y → Entry → Type 0) where
  pub viewed_more : (i : ℕ) (x : X) (a b c : Option Entry) → x ≡ get_or xs i x → i < length xs → c ≡ earlier_of a b → IsFirst (Below i (At (map view xs) broken)) a → IsFirst (broken (view x)) b
      → IsFirst (Below (i + 1) (At (map view xs) broken)) c
  viewed_more i x a b c e l q f g =
      one_more_as (At (map view xs) broken) i a b c q f
      (at_element (map view xs) broken i (view x) b (slice_get-map view xs i ∙ ap (option_map view) (slice_get_read xs (length xs) i x refl l e)) g)

  pub viewed_end : (i : ℕ) (a : Option Entry) → IsFirst (Below i (At (map view xs) broken)) a → i ≡ length xs → IsFirst (Below (length (map view xs)) (At (map view xs) broken)) a
  viewed_end i a f e = finished (At (map view xs) broken) i (length (map view xs)) a f (e ∙ sym (length-map xs view))

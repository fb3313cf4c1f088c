use Rattle.std.proofs.Common.{ℕ, List, Some, sym, ap, ◌∙◌, string_bytes}
use Rattle.std.specs.Option.{is_some}
use Rattle.std.specs.Str.{bytes_eq}
use Rattle.std.specs.Map.{update}
use Rattle.std.specs.HashMap.{get_by_text}
use Rattle.std.proofs.lemmas.Map.Text.{hash_map_updates_text}
use Rattle.closed_lists.proofs.Positions.{first_stays, first_comes}
use Rattle.closed_lists.proofs.Meetings.{on_ok_then}
use Rattle.closed_lists.proofs.index.add.Goals as goal

pub returns-in-Some : goal.returns-in-Some
returns-in-Some c = λ q. first_stays (get_by_text c.args.index.now) c.args.name.now q c.args.place (ap is_some (sym c.place_of.ensures ∙ c.in-Some.is))

pub returns-in_ok-from_str-in-None : goal.returns-in_ok-from_str-in-None
returns-in_ok-from_str-in-None c =
    on_ok_then c.put.result _ _ (λ u q. first_comes (get_by_text c.args.index.now) (get_by_text c.put.new.index) c.args.name.now q c.args.place (sym c.place_of.ensures ∙ c.in-None.is)
    (hash_map_updates_text (string_bytes c.in_ok-from_str-in-None.field-0) c.args.index.now c.put.new.index (Some c.args.place) u q
    ∙ ap (λ (t : List ℕ). update bytes_eq (get_by_text c.args.index.now) t (Some c.args.place) q) c.in_ok-from_str-in-None.ensures.ok)) c.put.ensures

use Rattle.std.proofs.Common.{ap, ◌∙◌, List, ℕ, Some, string_bytes, rules}
use Rattle.std.specs.Map.{update}
use Rattle.std.specs.Str.{bytes_eq}
use Rattle.std.specs.HashMap.{get_by_text}
use Rattle.std.proofs.lemmas.Map.Text.{hash_map_updates_text}
use Rattle.wr_base.specs.Declarations.{name_of}
use Rattle.wr_base.proofs.FindLaws.{finds_next}
use Rattle.wr_base.proofs.types.places_of.Goals as goal

pub loop-i-preserved : goal.loop-i-preserved
loop-i-preserved c =
    finds_next name_of c.args.list.now c.loop-i.i c.index-list-i.result (get_by_text c.loop-i.places) (get_by_text c.put_place.new.places) (search rules) (search rules)
    (λ q. hash_map_updates_text (string_bytes c.in_ok-name.name) c.loop-i.places c.put_place.new.places (Some c.loop-i.i) c.in_ok-put_place.ensures q
    ∙ ap (λ (t : List ℕ). update bytes_eq (get_by_text c.loop-i.places) t (Some c.loop-i.i) q) (search rules))
    c.loop-i.invariant

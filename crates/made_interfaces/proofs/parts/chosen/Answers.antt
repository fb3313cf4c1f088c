use Rattle.std.proofs.Common.{ap, ◌∙◌, arith, Option}
use Rattle.std.proofs.lemmas.List.{length-take}
use Rattle.ranked.specs.declared.place.Place.{Place}
use Rattle.made_interfaces.specs.Steps.{places_with}
use Rattle.made_interfaces.proofs.Building.{chosen_turn}
use Rattle.made_interfaces.proofs.parts.chosen.Goals as goal

pub loop-i-preserved : goal.loop-i-preserved
loop-i-preserved c =
    chosen_turn c.args.constructors.now c.args.places.now c.loop-i.i c.index-constructors-i.result c.loop-i.found.items c.push_place.new.places.items (omega arith) c.index-constructors-i.is
    (omega (arith, length-take c.loop-i.i c.args.constructors.now)) c.loop-i.invariant
    (c.in_ok-push_place.ensures ∙ ap (λ (o : Option Place). places_with c.loop-i.found.items c.index-constructors-i.result o) c.at.ensures)

use Rattle.wr_tools.proofs.SetLemmas.{made_of, rules_refused}
use Rattle.wr_tools.proofs.set.image_of_placed.Goals as goal

pub returns-clause-made : goal.returns-clause-made
returns-clause-made c =
    made_of c.args.placed c.in_ok-full.full.types c.in_ok-full.full.places (record { made = c.in_ok-full.ensures.clear; full = c.in_ok-full.ensures.full })
    c.image_of_types.result (c.in_ok-full.ensures.places c.requires.places) c.image_of_types.ensures.kept c.image_of_types.ensures.widths c.image_of_types.ensures.strict
    c.image_of_types.ensures.states

pub returns-clause-refused : goal.returns-clause-refused
returns-clause-refused c =
    rules_refused c.args.placed c.in_ok-full.full.types c.in_ok-full.full.places (record { made = c.in_ok-full.ensures.clear; full = c.in_ok-full.ensures.full })
    c.image_of_types.result c.image_of_types.ensures.refused

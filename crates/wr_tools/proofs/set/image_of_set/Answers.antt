use Rattle.midl_names.specs.Views.{sources_of}
use Rattle.wr_tools.proofs.SetLemmas.{made_set, set_refused}
use Rattle.wr_tools.proofs.set.image_of_set.Goals as goal

pub returns-clause-made : goal.returns-clause-made
returns-clause-made c =
    made_set (sources_of c.args.files.items) c.in_ok-placed.placed c.in_ok-placed.ensures.declares c.in_ok-placed.ensures.clear
    c.image_of_placed.result c.in_ok-placed.ensures.named c.in_ok-placed.ensures.pathed c.in_ok-placed.ensures.applied c.image_of_placed.ensures.made

pub returns-clause-refused : goal.returns-clause-refused
returns-clause-refused c =
    set_refused (sources_of c.args.files.items) c.in_ok-placed.placed c.in_ok-placed.ensures.declares c.in_ok-placed.ensures.clear
    c.image_of_placed.result c.image_of_placed.ensures.refused

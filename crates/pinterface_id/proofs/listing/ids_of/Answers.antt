use Rattle.std.proofs.Common.{◌∙◌}
use Rattle.std.specs.List.{flat_map, filter_map}
use Rattle.pinterface_id.proofs.Instances.{if_ok_then}
use Rattle.pinterface_id.specs.Listing.{declared_id, ids_in}
use Rattle.pinterface_id.proofs.Gatherings.{gathers_all}
use Rattle.pinterface_id.proofs.listing.ids_of.Goals as goal

pub returns : goal.returns
returns c =
    if_ok_then c.from_list.result _ _
    (λ ids e. e ∙ gathers_all c.new-gathered.result c.gather_owns.new.gathered c.gather_declarations.new.gathered (filter_map declared_id c.args.types.now) (flat_map (ids_in c.args.types.now) c.args.types.now)
    c.new-gathered.ensures.knows c.new-gathered.ensures.list c.in_ok-gather_owns.ensures c.in_ok-gather_declarations.ensures) c.from_list.ensures

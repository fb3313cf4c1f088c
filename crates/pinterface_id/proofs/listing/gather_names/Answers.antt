use Rattle.std.proofs.Common.{arith}
use Rattle.wr_base.specs.Trees.{reference}
use Rattle.pinterface_id.specs.Gathering.{name_ids}
use Rattle.pinterface_id.specs.Listing.{ids_within}
use Rattle.pinterface_id.proofs.Gatherings.{gathers_item, gathers_mapped}
use Rattle.pinterface_id.proofs.listing.gather_names.Goals as goal

pub loop-name-preserved : goal.loop-name-preserved
loop-name-preserved c = gathers_item (name_ids c.args.types.now) c.args.names.now c.loop-name.name-index c.name-item.result c.args.gathered.now c.loop-name.gathered c.gather_name.new.gathered (omega arith) c.name-item.is c.loop-name.invariant c.in_ok-gather_name.ensures

pub returns : goal.returns
returns c = gathers_mapped c.args.names.now c.loop-name.name-index c.args.gathered.now c.loop-name.gathered (omega arith) (ids_within c.args.types.now) reference c.loop-name.invariant

use Rattle.std.proofs.Common.{arith}
use Rattle.wr_base.specs.Trees.{tree_of}
use Rattle.pinterface_id.specs.Gathering.{type_ids}
use Rattle.pinterface_id.specs.Listing.{ids_within}
use Rattle.pinterface_id.proofs.Gatherings.{gathers_item, gathers_mapped}
use Rattle.pinterface_id.proofs.listing.gather_uses.Goals as goal

pub loop-ty-preserved : goal.loop-ty-preserved
loop-ty-preserved c = gathers_item (type_ids c.args.types.now) c.args.uses.now c.loop-ty.ty-index c.ty-item.result c.args.gathered.now c.loop-ty.gathered c.gather_use.new.gathered (omega arith) c.ty-item.is c.loop-ty.invariant c.in_ok-gather_use.ensures

pub returns : goal.returns
returns c = gathers_mapped c.args.uses.now c.loop-ty.ty-index c.args.gathered.now c.loop-ty.gathered (omega arith) (ids_within c.args.types.now) tree_of c.loop-ty.invariant

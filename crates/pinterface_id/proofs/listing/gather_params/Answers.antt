use Rattle.std.proofs.Common.{arith}
use Rattle.wr_base.specs.declared.declaration.Param.{Param}
use Rattle.wr_base.specs.Trees.{tree_of}
use Rattle.pinterface_id.specs.Gathering.{param_ids}
use Rattle.pinterface_id.specs.Listing.{ids_within}
use Rattle.pinterface_id.proofs.Gatherings.{gathers_item, gathers_mapped}
use Rattle.pinterface_id.proofs.listing.gather_params.Goals as goal

pub loop-param-preserved : goal.loop-param-preserved
loop-param-preserved c = gathers_item (param_ids c.args.types.now) c.args.params.now c.loop-param.param-index c.param-item.result c.args.gathered.now c.loop-param.gathered c.gather_use.new.gathered (omega arith) c.param-item.is c.loop-param.invariant c.in_ok-gather_use.ensures

pub returns : goal.returns
returns c = gathers_mapped c.args.params.now c.loop-param.param-index c.args.gathered.now c.loop-param.gathered (omega arith) (ids_within c.args.types.now) (λ (p : Param). tree_of p.ty) c.loop-param.invariant

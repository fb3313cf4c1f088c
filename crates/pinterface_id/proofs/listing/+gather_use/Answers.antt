use Rattle.std.proofs.Common.{List, subst, arith}
use Rattle.std.specs.List.{flat_map}
use Rattle.wr_base.specs.declared.type_use.TypeUse.{TypeUse}
use Rattle.wr_base.specs.Trees.{tree_of}
use Rattle.wr_rules.specs.Kinds.{option_list}
use Rattle.pinterface_id.specs.Gathering.{Gathers, type_ids}
use Rattle.pinterface_id.specs.Listing.{used_id}
use Rattle.pinterface_id.proofs.Gatherings.{gathers_then, gathers_item, gathers_flat, gathers_instance}
use Rattle.pinterface_id.proofs.listing.+gather_use.Goals as goal

pub loop-argument-preserved : goal.loop-argument-preserved
loop-argument-preserved t c =
    gathers_item (type_ids c.args.types.now) c.as_slice-argument-items.result.now c.loop-argument.argument-index c.argument-item.result c.gather_instance.new.gathered c.loop-argument.gathered c.gather_use.new.gathered
    (omega arith) c.argument-item.is c.loop-argument.invariant c.in_ok-gather_use-in-Inst.ensures

pub returns-after-loop-argument : goal.returns-after-loop-argument
returns-after-loop-argument t c =
    gathers_instance (used_id c.args.types.now) c.args.ty.now c.in-Inst.field-0 c.in-Inst.arguments c.args.gathered.now c.loop-argument.gathered c.in-Inst.is
    (gathers_then (option_list (used_id c.args.types.now (tree_of c.args.ty.now))) (flat_map (type_ids c.args.types.now) c.in-Inst.arguments) c.args.gathered.now c.gather_instance.new.gathered c.loop-argument.gathered
    c.in_ok-gather_instance-in-Inst.ensures
    (subst (λ (us : List TypeUse). Gathers (flat_map (type_ids c.args.types.now) us) c.gather_instance.new.gathered c.loop-argument.gathered) c.as_slice-argument-items.ensures
    (gathers_flat c.as_slice-argument-items.result.now c.loop-argument.argument-index c.gather_instance.new.gathered c.loop-argument.gathered (omega arith) (type_ids c.args.types.now) c.loop-argument.invariant)))

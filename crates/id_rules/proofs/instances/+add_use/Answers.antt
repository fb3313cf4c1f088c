use Rattle.std.proofs.Common.{List, [], ◌∷◌, ◌++◌, subst, arith}
use Rattle.std.specs.List.{flat_map}
use Rattle.std.specs.HashMap.{get_by_text}
use Rattle.wr_base.specs.declared.type_use.TypeUse.{TypeUse}
use Rattle.wr_base.specs.Trees.{UseTree, tree_of}
use Rattle.id_rules.specs.Table.{Adds, instances_within}
use Rattle.id_rules.proofs.TableLaws.{adds_none, adds_then, adds_as, adds_item, adds_flat, inst_within, inst_is, none_Plain, none_Value, none_Reference}
use Rattle.id_rules.proofs.instances.+add_use.Goals as goal

pub add_instance-requires : goal.add_instance-requires
add_instance-requires t c = inst_is c.args.ty.now c.in-Inst.field-0 c.in-Inst.arguments c.in-Inst.is

pub loop-argument-init : goal.loop-argument-init
loop-argument-init t c = adds_none c.args.types.now (get_by_text c.add_instance.new.table)

pub loop-argument-preserved : goal.loop-argument-preserved
loop-argument-preserved t c =
    adds_item c.args.types.now (λ (a : TypeUse). instances_within (tree_of a)) c.as_slice-argument-items.result.now c.loop-argument.argument-index c.argument-item.result
    (get_by_text c.add_instance.new.table) (get_by_text c.loop-argument.table) (get_by_text c.add_use.new.table)
    (omega arith) c.argument-item.is c.loop-argument.invariant c.in_ok-add_use-in-Inst.ensures

pub returns-after-loop-argument : goal.returns-after-loop-argument
returns-after-loop-argument t c =
    let inside : TypeUse → List UseTree = λ a. instances_within (tree_of a) in
    let u : UseTree = tree_of c.args.ty.now in
    adds_as c.args.types.now ((u ∷ []) ++ flat_map inside c.in-Inst.arguments) (instances_within u) (get_by_text c.args.table.now) (get_by_text c.loop-argument.table)
    (inst_within c.args.ty.now c.in-Inst.field-0 c.in-Inst.arguments c.in-Inst.is)
    (adds_then c.args.types.now (u ∷ []) (flat_map inside c.in-Inst.arguments) (get_by_text c.args.table.now) (get_by_text c.add_instance.new.table) (get_by_text c.loop-argument.table)
    c.in_ok-add_instance-in-Inst.ensures
    (subst (λ (us : List TypeUse). Adds c.args.types.now (flat_map inside us) (get_by_text c.add_instance.new.table) (get_by_text c.loop-argument.table)) c.as_slice-argument-items.ensures
    (adds_flat c.args.types.now inside c.as_slice-argument-items.result.now c.loop-argument.argument-index (get_by_text c.add_instance.new.table) (get_by_text c.loop-argument.table) (omega arith) c.loop-argument.invariant)))

pub returns-in-Plain : goal.returns-in-Plain
returns-in-Plain t c = adds_as c.args.types.now [] (instances_within (tree_of c.args.ty.now)) (get_by_text c.args.table.now) (get_by_text c.args.table.now) (none_Plain c.args.ty.now c.in-Plain.field-0 c.in-Plain.is) (adds_none c.args.types.now (get_by_text c.args.table.now))

pub returns-in-Value : goal.returns-in-Value
returns-in-Value t c = adds_as c.args.types.now [] (instances_within (tree_of c.args.ty.now)) (get_by_text c.args.table.now) (get_by_text c.args.table.now) (none_Value c.args.ty.now c.in-Value.field-0 c.in-Value.is) (adds_none c.args.types.now (get_by_text c.args.table.now))

pub returns-in-Reference : goal.returns-in-Reference
returns-in-Reference t c = adds_as c.args.types.now [] (instances_within (tree_of c.args.ty.now)) (get_by_text c.args.table.now) (get_by_text c.args.table.now) (none_Reference c.args.ty.now c.in-Reference.field-0 c.in-Reference.is) (adds_none c.args.types.now (get_by_text c.args.table.now))

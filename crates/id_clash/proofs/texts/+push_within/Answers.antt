use Rattle.std.proofs.Common.{List, [], ◌∷◌, ◌++◌, subst, arith}
use Rattle.std.specs.List.{flat_map}
use Rattle.wr_base.specs.declared.type_use.TypeUse.{TypeUse}
use Rattle.wr_base.specs.Trees.{UseTree, tree_of}
use Rattle.id_rules.specs.Table.{instances_within}
use Rattle.id_rules.proofs.TableLaws.{inst_within, none_Plain, none_Value, none_Reference}
use Rattle.id_clash.specs.Items.{Puts, texts_in}
use Rattle.id_clash.proofs.WalkLaws.{puts_none, puts_then, puts_as, puts_start, puts_item, puts_flat}
use Rattle.id_clash.proofs.texts.+push_within.Goals as goal

abbrev inside : TypeUse → List UseTree
inside a = instances_within (tree_of a)

pub loop-argument-init : goal.loop-argument-init
loop-argument-init t c = puts_start inside c.as_slice-argument-items.result.now (texts_in c.push_one.new.texts.items)

pub loop-argument-preserved : goal.loop-argument-preserved
loop-argument-preserved t c =
    puts_item inside c.as_slice-argument-items.result.now c.loop-argument.argument-index c.argument-item.result (texts_in c.push_one.new.texts.items) (texts_in c.loop-argument.texts.items) (texts_in c.push_within.new.texts.items) (omega arith) c.argument-item.is
    c.loop-argument.invariant c.in_ok-push_within-in-Inst.ensures

pub returns-after-loop-argument : goal.returns-after-loop-argument
returns-after-loop-argument t c =
    let u : UseTree = tree_of c.args.ty.now in
    puts_as ((u ∷ []) ++ flat_map inside c.in-Inst.arguments) (instances_within u) (texts_in c.args.texts.now.items) (texts_in c.loop-argument.texts.items) (inst_within c.args.ty.now c.in-Inst.field-0 c.in-Inst.arguments c.in-Inst.is)
    (puts_then (u ∷ []) (flat_map inside c.in-Inst.arguments) (texts_in c.args.texts.now.items) (texts_in c.push_one.new.texts.items) (texts_in c.loop-argument.texts.items) c.in_ok-push_one-in-Inst.ensures
    (subst (λ (us : List TypeUse). Puts (flat_map inside us) (texts_in c.push_one.new.texts.items) (texts_in c.loop-argument.texts.items)) c.as_slice-argument-items.ensures
    (puts_flat inside c.as_slice-argument-items.result.now c.loop-argument.argument-index (texts_in c.push_one.new.texts.items) (texts_in c.loop-argument.texts.items) (omega arith) c.loop-argument.invariant)))

pub returns-in-Plain : goal.returns-in-Plain
returns-in-Plain t c = puts_as [] (instances_within (tree_of c.args.ty.now)) (texts_in c.args.texts.now.items) (texts_in c.args.texts.now.items) (none_Plain c.args.ty.now c.in-Plain.field-0 c.in-Plain.is) (puts_none (texts_in c.args.texts.now.items))

pub returns-in-Value : goal.returns-in-Value
returns-in-Value t c = puts_as [] (instances_within (tree_of c.args.ty.now)) (texts_in c.args.texts.now.items) (texts_in c.args.texts.now.items) (none_Value c.args.ty.now c.in-Value.field-0 c.in-Value.is) (puts_none (texts_in c.args.texts.now.items))

pub returns-in-Reference : goal.returns-in-Reference
returns-in-Reference t c = puts_as [] (instances_within (tree_of c.args.ty.now)) (texts_in c.args.texts.now.items) (texts_in c.args.texts.now.items) (none_Reference c.args.ty.now c.in-Reference.field-0 c.in-Reference.is) (puts_none (texts_in c.args.texts.now.items))

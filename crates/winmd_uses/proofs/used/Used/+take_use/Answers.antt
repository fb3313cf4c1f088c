use Rattle.std.proofs.Common.{arith}
use Rattle.wr_base.specs.declared.type_use.TypeUse.{TypeUse}
use Rattle.wr_base.specs.Trees.{tree_of}
use Rattle.winmd_lines.specs.UsedNames.{names_in_use}
use Rattle.winmd_uses.specs.Takes.{names_alone}
use Rattle.winmd_uses.proofs.TakeLaws.{takes_turn}
use Rattle.winmd_uses.proofs.UseLaws.{instance_taken}
use Rattle.winmd_uses.proofs.used.Used.+take_use.Goals as goal

pub loop-argument-preserved : goal.loop-argument-preserved
loop-argument-preserved t c =
    takes_turn (λ (u : TypeUse). names_alone (names_in_use (tree_of u))) c.as_slice-list.result.now c.loop-argument.argument-index c.argument-item.result c.take_template.new.self c.loop-argument.self c.take_use.new.self (omega arith) c.argument-item.is c.loop-argument.invariant c.in_ok-take_use-in-Inst.ensures

pub returns-after-loop-argument : goal.returns-after-loop-argument
returns-after-loop-argument t c =
    instance_taken c.in-Inst.name c.in-Inst.arguments c.as_slice-list.result.now c.loop-argument.argument-index c.args.ty.now c.args.self.now c.take_template.new.self c.loop-argument.self (omega arith) c.as_slice-list.ensures c.in-Inst.is
    c.in_ok-take_template-in-Inst.ensures c.loop-argument.invariant

use Rattle.std.proofs.Common.{arith, map}
use Rattle.wr_base.specs.declared.type_use.TypeUse.{TypeUse}
use Rattle.wr_base.specs.Trees.{tree_of}
use Rattle.winmd_lines.specs.Lines.{Type_}
use Rattle.winmd_sets.specs.Declared.{interface_line}
use Rattle.winmd_uses.proofs.KindLaws.{interfaces_say}
use Rattle.winmd_uses.specs.Takes.{cell_says, lines_say}
use Rattle.winmd_uses.proofs.TakeLaws.{takes_all, takes_turn}
use Rattle.winmd_uses.proofs.used.Used.take_interfaces.Goals as goal

pub loop-ty-preserved : goal.loop-ty-preserved
loop-ty-preserved c = takes_turn (λ (u : TypeUse). cell_says (Type_ (tree_of u))) c.args.uses.now c.loop-ty.ty-index c.ty-item.result c.args.self.now c.loop-ty.self c.take_cell.new.self (omega arith) c.ty-item.is c.loop-ty.invariant c.in_ok-take_cell.ensures

pub returns : goal.returns
returns c = takes_all (λ (u : TypeUse). cell_says (Type_ (tree_of u))) c.args.uses.now c.loop-ty.ty-index (lines_say (map interface_line (map tree_of c.args.uses.now))) c.args.self.now c.loop-ty.self (omega arith) (interfaces_say c.args.uses.now) c.loop-ty.invariant

use Rattle.std.proofs.Common.{arith, map}
use Rattle.std.specs.List.{flat_map}
use Rattle.wr_base.specs.declared.declaration.Param.{Param}
use Rattle.wr_base.specs.Trees.{ParamTree, param_tree, tree_of}
use Rattle.winmd_lines.specs.UsedNames.{names_in_use}
use Rattle.winmd_uses.specs.Takes.{names_alone}
use Rattle.winmd_uses.proofs.TakeLaws.{each_names, takes_all, takes_turn}
use Rattle.winmd_uses.proofs.used.Used.take_params.Goals as goal

pub loop-param-preserved : goal.loop-param-preserved
loop-param-preserved c = takes_turn (λ (p : Param). names_alone (names_in_use (tree_of p.ty))) c.args.params.now c.loop-param.param-index c.param-item.result c.args.self.now c.loop-param.self c.take_use.new.self (omega arith) c.param-item.is c.loop-param.invariant c.in_ok-take_use.ensures

pub returns : goal.returns
returns c = takes_all (λ (p : Param). names_alone (names_in_use (tree_of p.ty))) c.args.params.now c.loop-param.param-index (names_alone (flat_map (λ p. names_in_use p.kind) (map param_tree c.args.params.now))) c.args.self.now c.loop-param.self (omega arith) (each_names (λ (p : ParamTree). names_in_use p.kind) param_tree c.args.params.now) c.loop-param.invariant

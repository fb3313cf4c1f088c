use Rattle.std.proofs.Common.{arith, map}
use Rattle.std.specs.List.{flat_map}
use Rattle.wr_base.specs.declared.declaration.Field.{Field}
use Rattle.wr_base.specs.Trees.{FieldTree, field_tree, tree_of}
use Rattle.winmd_lines.specs.UsedNames.{names_in_use}
use Rattle.winmd_uses.specs.Takes.{names_alone}
use Rattle.winmd_uses.proofs.TakeLaws.{each_names, takes_all, takes_turn}
use Rattle.winmd_uses.proofs.used.Used.take_fields.Goals as goal

pub loop-field-preserved : goal.loop-field-preserved
loop-field-preserved c = takes_turn (λ (f : Field). names_alone (names_in_use (tree_of f.ty))) c.args.fields.now c.loop-field.field-index c.field-item.result c.args.self.now c.loop-field.self c.take_use.new.self (omega arith) c.field-item.is c.loop-field.invariant c.in_ok-take_use.ensures

pub returns : goal.returns
returns c = takes_all (λ (f : Field). names_alone (names_in_use (tree_of f.ty))) c.args.fields.now c.loop-field.field-index (names_alone (flat_map (λ f. names_in_use f.kind) (map field_tree c.args.fields.now))) c.args.self.now c.loop-field.self (omega arith) (each_names (λ (f : FieldTree). names_in_use f.kind) field_tree c.args.fields.now) c.loop-field.invariant

use Rattle.std.proofs.Common.{map, codes}
use Rattle.std.specs.List.{flat_map}
use Rattle.wr_base.specs.Trees.{field_tree}
use Rattle.winmd_lines.specs.UsedNames.{names_in_use}
use Rattle.winmd_uses.specs.Kinds.{base_says, struct_says}
use Rattle.winmd_uses.specs.Takes.{names_alone}
use Rattle.winmd_uses.proofs.TakeLaws.{same_refl, takes_last}
use Rattle.winmd_uses.proofs.used.Used.take_struct.Goals as goal

pub returns : goal.returns
returns c =
    takes_last c.take_fields.result (base_says (codes "System.ValueType")) (names_alone (flat_map (λ f. names_in_use f.kind) (map field_tree c.args.fields.now))) (struct_says (map field_tree c.args.fields.now))
    c.args.self.now c.take_kind.new.self c.take_fields.new.self (same_refl (struct_says (map field_tree c.args.fields.now))) c.in_ok-take_kind.ensures c.take_fields.ensures

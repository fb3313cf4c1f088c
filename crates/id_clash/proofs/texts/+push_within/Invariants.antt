use Rattle.std.proofs.Common.{take}
use Rattle.std.specs.List.{flat_map}
use Rattle.wr_base.specs.declared.type_use.TypeUse.{TypeUse}
use Rattle.wr_base.specs.Trees.{tree_of}
use Rattle.id_rules.specs.Table.{instances_within}
use Rattle.id_clash.specs.Items.{Puts, texts_in}
use Rattle.id_clash.proofs.texts.+push_within.Given as goal

abbrev pub invariant-loop-argument : goal.invariant-loop-argument
invariant-loop-argument l = Puts (flat_map (λ (a : TypeUse). instances_within (tree_of a)) (take l.argument-index l.argument-items)) (texts_in l.initial.texts.items) (texts_in l.texts.items)

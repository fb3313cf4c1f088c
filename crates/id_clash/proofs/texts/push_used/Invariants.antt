use Rattle.std.proofs.Common.{take}
use Rattle.std.specs.List.{flat_map}
use Rattle.site_uses.specs.declared.used.Used.{Used}
use Rattle.site_uses.specs.Views.{shape_view}
use Rattle.id_rules.specs.Table.{instances_within}
use Rattle.id_clash.specs.Items.{Puts, texts_in}
use Rattle.id_clash.proofs.texts.push_used.Given as goal

abbrev pub invariant-loop-one : goal.invariant-loop-one
invariant-loop-one l = Puts (flat_map (λ (u : Used). instances_within (shape_view u.shape)) (take l.one-index l.used)) (texts_in l.initial.texts.items) (texts_in l.texts.items)

use Rattle.std.proofs.Common.{List, arith}
use Rattle.wr_base.specs.Trees.{UseTree}
use Rattle.wr_rules.specs.Uses as uses
use Rattle.site_uses.specs.declared.used.Used.{Used}
use Rattle.site_uses.specs.Views.{shape_view, used_view}
use Rattle.id_rules.specs.Table.{instances_within}
use Rattle.id_clash.specs.Items.{texts_in}
use Rattle.id_clash.proofs.WalkLaws.{puts_start, puts_item, puts_flat, puts_mapped}
use Rattle.id_clash.proofs.texts.push_used.Goals as goal

abbrev inside : Used → List UseTree
inside u = instances_within (shape_view u.shape)

pub loop-one-init : goal.loop-one-init
loop-one-init c = puts_start inside c.args.used.now (texts_in c.args.texts.now.items)

pub loop-one-preserved : goal.loop-one-preserved
loop-one-preserved c =
    puts_item inside c.args.used.now c.loop-one.one-index c.one-item.result (texts_in c.args.texts.now.items) (texts_in c.loop-one.texts.items) (texts_in c.push_shape.new.texts.items) (omega arith) c.one-item.is c.loop-one.invariant c.in_ok-push_shape.ensures

pub returns : goal.returns
returns c =
    puts_mapped (λ (u : uses.Used). instances_within u.use_) used_view c.args.used.now (texts_in c.args.texts.now.items) (texts_in c.loop-one.texts.items)
    (puts_flat inside c.args.used.now c.loop-one.one-index (texts_in c.args.texts.now.items) (texts_in c.loop-one.texts.items) (omega arith) c.loop-one.invariant)

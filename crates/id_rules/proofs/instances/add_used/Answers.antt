use Rattle.std.proofs.Common.{arith}
use Rattle.std.specs.HashMap.{get_by_text}
use Rattle.wr_rules.specs.Uses as uses
use Rattle.site_uses.specs.declared.used.Used.{Used}
use Rattle.site_uses.specs.Views.{shape_view, used_view}
use Rattle.id_rules.specs.Table.{instances_within}
use Rattle.id_rules.proofs.TableLaws.{adds_none, adds_item, adds_flat, adds_mapped}
use Rattle.id_rules.proofs.instances.add_used.Goals as goal

pub loop-one-init : goal.loop-one-init
loop-one-init c = adds_none c.args.types.now (get_by_text c.args.table.now)

pub loop-one-preserved : goal.loop-one-preserved
loop-one-preserved c =
    adds_item c.args.types.now (λ (u : Used). instances_within (shape_view u.shape)) c.args.used.now c.loop-one.one-index c.one-item.result (get_by_text c.args.table.now) (get_by_text c.loop-one.table) (get_by_text c.add_shape.new.table)
    (omega arith) c.one-item.is c.loop-one.invariant c.in_ok-add_shape.ensures

pub returns : goal.returns
returns c =
    adds_mapped c.args.types.now (λ (u : uses.Used). instances_within u.use_) used_view c.args.used.now (get_by_text c.args.table.now) (get_by_text c.loop-one.table)
    (adds_flat c.args.types.now (λ (u : Used). instances_within (shape_view u.shape)) c.args.used.now c.loop-one.one-index (get_by_text c.args.table.now) (get_by_text c.loop-one.table) (omega arith) c.loop-one.invariant)

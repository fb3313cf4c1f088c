use Rattle.std.proofs.Common.{arith}
use Rattle.std.specs.HashMap.{get_by_text}
use Rattle.wr_rules.specs.Sites.{sites_of}
use Rattle.wr_rules.specs.NameRules.{instances_at, instances_in}
use Rattle.placed_sites.specs.Views.{site_view}
use Rattle.id_rules.proofs.TableLaws.{adds_at, adds_flat, adds_all, none_taken}
use Rattle.id_rules.proofs.instances.instance_ids.Goals as goal

pub loop-i-init : goal.loop-i-init
loop-i-init c = none_taken c.args.types.now.types instances_at (sites_of c.args.types.now.types c.args.types.now.places) (get_by_text c.no_ids-table.result)

pub loop-i-preserved : goal.loop-i-preserved
loop-i-preserved c =
    adds_at c.args.types.now.types instances_at (sites_of c.args.types.now.types c.args.types.now.places) c.loop-i.i (site_view c.at-site.result)
    (get_by_text c.no_ids-table.result) (get_by_text c.loop-i.table) (get_by_text c.add_site.new.table)
    c.at-site.ensures c.loop-i.invariant c.in_ok-add_site.ensures

pub returns : goal.returns
returns c =
    adds_all c.args.types.now.types (instances_in (sites_of c.args.types.now.types c.args.types.now.places)) (get_by_text c.no_ids-table.result) (get_by_text c.loop-i.table) c.no_ids-table.ensures
    (adds_flat c.args.types.now.types instances_at (sites_of c.args.types.now.types c.args.types.now.places) c.loop-i.i (get_by_text c.no_ids-table.result) (get_by_text c.loop-i.table) (omega (arith, c.site_count-i-end.ensures.count)) c.loop-i.invariant)

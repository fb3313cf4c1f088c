use Rattle.std.proofs.Common.{rules, arith}
use Rattle.std.specs.HashMap.{get_by_text}
use Rattle.ranked.proofs.FirstLaws.{none_below, one_more_element}
use Rattle.midl_names.specs.Names.{ItemFaults}
use Rattle.midl_names.specs.Views.{item_of}
use Rattle.midl_names.proofs.Firsts.{viewed}
use Rattle.midl_names.proofs.faults.all_item_faults.Goals as goal

pub loop-item-init : goal.loop-item-init
loop-item-init c = none_below _

pub loop-item-preserved : goal.loop-item-preserved
loop-item-preserved c =
    one_more_element c.args.items.now (λ x. ItemFaults (get_by_text c.args.index.now.sorts) (item_of x)) c.loop-item.item-index c.item-item.result c.loop-item.first _ _ c.item-item.is c.earlier-first.ensures c.loop-item.invariant c.in_ok-item_faults.ensures (search rules)

pub returns : goal.returns
returns c = viewed item_of c.args.items.now (ItemFaults (get_by_text c.args.index.now.sorts)) c.loop-item.item-index c.loop-item.first c.loop-item.invariant (omega arith)

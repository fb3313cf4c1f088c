use Rattle.closed_lists.specs.Views.{sites_in}
use Rattle.class_synthesis.specs.Ordered.{IsOrdered}
use Rattle.class_synthesis.proofs.OrderedLaws.{sorted_in_order, ordered_from}
use Rattle.class_synthesis.proofs.TakenLaws.{if_ok_three}
use Rattle.class_synthesis.proofs.ordered.in_order.Goals as goal

pub typed-requires : goal.typed-requires
typed-requires c =
    sorted_in_order c.args.list.items c.sort_by_name.new.list.items c.sort_by_name.ensures.permutation c.in_ok-sort_by_name.ensures.sorted c.requires.apart c.requires.short

pub returns : goal.returns
returns c =
    if_ok_three c.typed.result _ _ _ (IsOrdered (sites_in c.args.list.items))
    (λ t types places order. ordered_from c.args.list.items c.sort_by_name.new.list.items t c.sort_by_name.ensures.permutation types places order) c.typed.ensures.types c.typed.ensures.places c.typed.ensures.order

use Rattle.class_synthesis.proofs.FullLaws.{all_apart, is_full}
use Rattle.class_synthesis.proofs.TakenLaws.{if_ok_then}
use Rattle.class_synthesis.proofs.synthesis.whole.Goals as goal

pub in_order-requires-clause-apart : goal.in_order-requires-clause-apart
in_order-requires-clause-apart c = all_apart c.args.placed c.in_ok-sites.sites.items c.in_ok-closed.closed.items c.in_ok-sites.ensures c.in_ok-closed.ensures c.requires.apart c.requires.clear

pub returns : goal.returns
returns c = if_ok_then c.in_order.result _ _ (λ t ordered. is_full c.args.placed c.in_ok-sites.sites.items c.in_ok-closed.closed.items c.in_ok-sites.ensures c.in_ok-closed.ensures t ordered) c.in_order.ensures

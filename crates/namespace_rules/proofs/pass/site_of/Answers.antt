use Rattle.wr_rules.specs.Sites.{sites_of}
use Rattle.place_order.proofs.EarlierLaws.{site_of_stand}
use Rattle.set_limits.proofs.PassLaws.{within_types}
use Rattle.namespace_rules.proofs.pass.site_of.Goals as goal

pub at-requires : goal.at-requires
at-requires c =
    let s = site_of_stand (sites_of c.args.types.now.types c.args.types.now.places) c.args.stands.now c.requires.order c.args.i c.stand_at-stand.result c.stand_at-stand.ensures in
    let w = within_types c.args.types.now.types c.args.types.now.places _ s.0 s.1 in
    record { declared = w.0; placed = w.1 }

pub returns : goal.returns
returns c = record { stand = c.stand_at-stand.result; there = c.stand_at-stand.ensures; at = c.at.ensures }

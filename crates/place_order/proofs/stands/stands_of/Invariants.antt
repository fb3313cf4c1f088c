use Rattle.std.proofs.Common.{◌≡◌, take}
use Rattle.wr_rules.specs.Sites.{sites_of}
use Rattle.place_order.specs.Stands.{stands_from}
use Rattle.place_order.proofs.stands.stands_of.Given as goal

abbrev pub invariant-loop-i : goal.invariant-loop-i
invariant-loop-i l = l.stands.items ≡ take l.i (stands_from 0 (sites_of l.types.types l.types.places))

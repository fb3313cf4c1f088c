use Rattle.std.proofs.Common.{◌≡◌, ◌++◌}
use Rattle.std.specs.Vec.Iter.{into_iter_items}
use Rattle.closed_lists.specs.Views.{sites_in}
use Rattle.made_interfaces.specs.Made.{raw}
use Rattle.made_interfaces.proofs.items.raw.Given as goal

abbrev pub invariant-loop-item : goal.invariant-loop-item
invariant-loop-item l = sites_in l.sites.items ++ raw (into_iter_items l.item-iterator) ≡ raw l.fn.items

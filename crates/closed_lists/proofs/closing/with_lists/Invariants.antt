use Rattle.std.proofs.Common.{◌≡◌, ◌++◌}
use Rattle.std.specs.Vec.Iter.{into_iter_items}
use Rattle.closed_lists.specs.Views.{sites_in}
use Rattle.closed_lists.specs.Closures.{with_lists}
use Rattle.closed_lists.proofs.closing.with_lists.Given as goal

abbrev pub invariant-loop-site : goal.invariant-loop-site
invariant-loop-site l = sites_in l.closed.items ++ with_lists (sites_in (into_iter_items l.site-iterator)) (into_iter_items l.lists) ≡ with_lists (sites_in l.fn.sites.items) l.fn.lists.items

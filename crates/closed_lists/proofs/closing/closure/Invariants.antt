use Rattle.std.proofs.Common.{◌+◌, ◌-◌, length}
use Rattle.closed_lists.specs.Views.{decls_in}
use Rattle.closed_lists.specs.Closing.{Reaches, unmet, uses_from}
use Rattle.closed_lists.proofs.closing.closure.Given as goal

abbrev pub invariant-more : goal.invariant-more
invariant-more l = Reaches (decls_in l.sites) l.list l.gathered l.next

abbrev pub decreases-more : goal.decreases-more
decreases-more l = unmet l.gathered (uses_from (decls_in l.sites) l.list) + (length l.gathered.uses.items - l.next)

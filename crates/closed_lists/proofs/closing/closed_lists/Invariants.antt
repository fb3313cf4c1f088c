use Rattle.std.proofs.Common.{take}
use Rattle.std.specs.List.{AllZip}
use Rattle.closed_lists.specs.Views.{decls_in, sites_in}
use Rattle.closed_lists.specs.Closures.{Leads}
use Rattle.closed_lists.proofs.closing.closed_lists.Given as goal

abbrev pub invariant-loop-site : goal.invariant-loop-site
invariant-loop-site l = AllZip (Leads (decls_in l.sites)) (take l.site-index (sites_in l.sites)) l.lists.items

use Rattle.std.proofs.Common.{◌≡◌, ◌++◌}
use Rattle.std.specs.Vec.Iter.{into_iter_items}
use Rattle.closed_lists.specs.Views.{decls_in}
use Rattle.class_synthesis.specs.Ordered.{places_in}
use Rattle.class_synthesis.proofs.ordered.apart.Given as goal

abbrev pub invariant-loop-site : goal.invariant-loop-site
invariant-loop-site l = record {
  declarations : l.parted.declarations.items ++ decls_in (into_iter_items l.site-iterator) ≡ decls_in l.fn.list.items;
  places : l.parted.places.items ++ places_in (into_iter_items l.site-iterator) ≡ places_in l.fn.list.items;
}

use Rattle.std.proofs.Common.{sym, ◌∙◌, arith}
use Rattle.placed_sites.specs.Views.{site_view}
use Rattle.site_parts.proofs.Stood.{by_parts, by_places}
use Rattle.site_parts.proofs.standing.part_count.Goals as goal

pub returns-then-places-parts-clause-count : goal.returns-then-places-parts-clause-count
returns-then-places-parts-clause-count g c =
    c.len-places.ensures ∙ sym (by_places (site_view c.args.site.now) g.X.Titled.title c.args.parts.now (site_view c.args.site.now).places.parts (omega (arith, c.len-places.ensures, c.if-places-parts.true)))

pub returns-else-places-parts-clause-count : goal.returns-else-places-parts-clause-count
returns-else-places-parts-clause-count g c =
    sym (by_parts (site_view c.args.site.now) g.X.Titled.title c.args.parts.now (site_view c.args.site.now).places.parts (omega (arith, c.len-places.ensures, c.if-places-parts.false)))

use Rattle.std.proofs.Common.{Some, sym, ap, ◌∙◌, refl, length}
use Rattle.std.proofs.lemmas.Option.{slice_get_read}
use Rattle.wr_rules.specs.Sites.{Spot, part_spot}
use Rattle.placed_sites.specs.Views.{site_view}
use Rattle.site_parts.proofs.Stood.{standing_at}
use Rattle.site_parts.proofs.standing.part_at.Goals as goal

pub returns : goal.returns
returns g c =
    standing_at (site_view c.args.site.now) g.X.Titled.title c.args.parts.now (site_view c.args.site.now).places.parts c.args.i c.index-parts-i.result c.place_at-place.result
    (slice_get_read c.args.parts.now (length c.args.parts.now) c.args.i c.index-parts-i.result refl c.requires.parts c.index-parts-i.is) c.place_at-place.ensures
    ∙ sym (ap (λ x. Some x) (c.new.ensures
    ∙ ap (λ (s : Spot). record { part = c.index-parts-i.result; spot = s }) (c.part_spot.ensures ∙ ap (part_spot (site_view c.args.site.now) c.place_at-place.result) c.title.ensures)))

use Rattle.std.proofs.Common.{◌++◌, ◌∷◌, [], sym, ap, ◌∙◌}
use Rattle.wr_rules.specs.Members.{standing}
use Rattle.placed_sites.specs.Views.{site_view}
use Rattle.site_parts.proofs.Stood.{one_further}
use Rattle.site_parts.proofs.standing.stand_all.Goals as goal

pub loop-i-preserved : goal.loop-i-preserved
loop-i-preserved g c =
    c.in_ok-push.ensures.items ∙ ap (λ xs. xs ++ c.part_at.result ∷ []) c.loop-i.invariant
    ∙ sym (one_further (standing (site_view c.args.site.now) g.X.Titled.title c.args.parts.now (site_view c.args.site.now).places.parts) c.loop-i.i _ c.part_at.ensures)

use Rattle.std.proofs.Common.{◌+◌, ℕ, map, sum, ap, ◌∙◌}
use Rattle.placed_sites.specs.Views.{site_view}
use Rattle.wr_rules.specs.MemberRules.{signatures_at}
use Rattle.set_limits.specs.Counts.{capped, params_of}
use Rattle.set_limits.proofs.CapLaws.{one_behind}
use Rattle.set_limits.proofs.counts.names_in.Goals as goal

pub returns : goal.returns
returns c =
    one_behind c.add.result c.part_count-parts.result c.params_in-params.result (sum (map params_of (signatures_at (site_view c.args.site.now))))
    (c.params_in-params.ensures ∙ ap (λ xs. capped (sum (map params_of xs))) (c.as_slice.ensures.value ∙ c.in_ok-signatures.ensures)) c.add.ensures
    ∙ ap (λ (n : ℕ). capped (n + sum (map params_of (signatures_at (site_view c.args.site.now))))) c.part_count-parts.ensures

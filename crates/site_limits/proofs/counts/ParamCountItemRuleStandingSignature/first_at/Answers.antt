use Rattle.std.proofs.Common.{nat_lt, length, ap, ◌∙◌}
use Rattle.placed_sites.specs.Views.{spot_view}
use Rattle.wr_base.specs.declared.code.Code.TheVariants.{ManyParams}
use Rattle.wr_base.specs.declared.declaration.Signature.{Signature}
use Rattle.placed_sites.proofs.Firsts.{refused}
use Rattle.site_limits.proofs.counts.ParamCountItemRuleStandingSignature.first_at.Goals as goal

pub returns : goal.returns
returns c =
    refused c.refuse_if.result c.takes_many.result (nat_lt 64 (length c.args.item.now.part.params)) ManyParams (spot_view c.spot.result) c.args.item.now.spot
    (c.takes_many.ensures ∙ ap (λ (s : Signature). nat_lt 64 (length s.params)) c.part.ensures) c.spot.ensures c.refuse_if.ensures

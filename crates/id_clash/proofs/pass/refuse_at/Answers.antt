use Rattle.std.proofs.Common.{◌≡◌, IfOk, subst}
use Rattle.wr_base.specs.declared.code.Code.TheVariants.{DuplicateId}
use Rattle.placed_sites.specs.Views.{site_view, give}
use Rattle.wr_rules.specs.Sites.{Spot, spot_of, broken_at}
use Rattle.placed_sites.proofs.Firsts.{first_ok}
use Rattle.id_clash.proofs.pass.refuse_at.Goals as goal

pub returns : goal.returns
returns c =
    first_ok c.refuse_if.result c.args.told DuplicateId (spot_of (site_view c.args.site.now))
    (subst (λ (s : Spot). IfOk c.refuse_if.result (λ a. a ≡ give c.args.told (broken_at DuplicateId s))) c.spot.ensures c.refuse_if.ensures)

use Rattle.ranked.specs.First.{Among, Or}
use Rattle.ranked.proofs.FirstLaws.{union_as}
use Rattle.wr_rules.specs.Sites.{sites_of}
use Rattle.wr_rules.specs.Limits.{IsManyUses}
use Rattle.set_limits.specs.Pass.{Past, TypesOrNames}
use Rattle.limits.specs.Single.{PastAlone}
use Rattle.limits.proofs.LimitLaws.{limits_first}
use Rattle.limits.proofs.first.first_limit.Goals as goal

pub returns : goal.returns
returns c =
    limits_first (sites_of c.args.types.now.types c.args.types.now.places) c.earlier-2.result
    (union_as (Or (Among (sites_of c.args.types.now.types c.args.types.now.places) PastAlone) (Past (sites_of c.args.types.now.types c.args.types.now.places) TypesOrNames)) (Past (sites_of c.args.types.now.types c.args.types.now.places) IsManyUses)
    c.earlier.result c.in_ok-uses.uses c.earlier-2.result c.earlier-2.ensures
    (union_as (Among (sites_of c.args.types.now.types c.args.types.now.places) PastAlone) (Past (sites_of c.args.types.now.types c.args.types.now.places) TypesOrNames) c.in_ok-alone.alone c.in_ok-names.names c.earlier.result c.earlier.ensures
    c.in_ok-alone.ensures c.in_ok-names.ensures) c.in_ok-uses.ensures)

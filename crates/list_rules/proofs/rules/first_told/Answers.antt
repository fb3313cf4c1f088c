use Rattle.ranked.specs.First.{Among, Or}
use Rattle.ranked.proofs.FirstLaws.{union_as}
use Rattle.wr_rules.specs.Sites.{sites_of}
use Rattle.wr_rules.specs.ListRules.{IsNotClosed, IsRequiresCycle, IsMemberClash}
use Rattle.list_rules.proofs.RuleLaws.{as_three}
use Rattle.list_rules.proofs.rules.first_told.Goals as goal

pub returns : goal.returns
returns c =
    as_three (Among (sites_of c.args.types.now.types c.args.types.now.places) (IsNotClosed c.args.types.now.types)) (Among (sites_of c.args.types.now.types c.args.types.now.places) (IsRequiresCycle c.args.types.now.types))
    (Among (sites_of c.args.types.now.types c.args.types.now.places) (IsMemberClash c.args.types.now.types)) c.earlier.result
    (union_as (Or (Among (sites_of c.args.types.now.types c.args.types.now.places) (IsNotClosed c.args.types.now.types)) (Among (sites_of c.args.types.now.types c.args.types.now.places) (IsRequiresCycle c.args.types.now.types)))
    (Or (Among (sites_of c.args.types.now.types c.args.types.now.places) (IsNotClosed c.args.types.now.types)) (Among (sites_of c.args.types.now.types c.args.types.now.places) (IsMemberClash c.args.types.now.types)))
    c.in_ok-first.first c.in_ok-second.second c.earlier.result c.earlier.ensures c.in_ok-first.ensures c.in_ok-second.ensures)

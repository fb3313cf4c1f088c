use Rattle.ranked.specs.First.{Among}
use Rattle.ranked.proofs.FirstLaws.{union_as}
use Rattle.wr_rules.specs.Sites.{sites_of}
use Rattle.wr_rules.specs.ListRules.{IsNotClosed}
use Rattle.wr_rules.proofs.ClashLaws.{IsListedClash, clashes_by_list}
use Rattle.list_rules.proofs.RuleLaws.{open_first, clash_first}
use Rattle.list_rules.proofs.rules.first_clash.Goals as goal

pub returns : goal.returns
returns c =
    clashes_by_list c.args.types.now.types (sites_of c.args.types.now.types c.args.types.now.places) c.earlier.result
    (union_as (Among (sites_of c.args.types.now.types c.args.types.now.places) (IsNotClosed c.args.types.now.types)) (Among (sites_of c.args.types.now.types c.args.types.now.places) (IsListedClash c.args.types.now.types)) c.in_ok-open.open c.in_ok-clash.clash
    c.earlier.result c.earlier.ensures
    (open_first c.args.types.now.types c.args.types.now.places c.args.open.now c.in_ok-open.open c.requires.open c.in_ok-open.ensures)
    (clash_first c.args.types.now.types c.args.types.now.places c.args.clash.now c.in_ok-clash.clash c.requires.clash c.in_ok-clash.ensures))

use Rattle.ranked.specs.First.{Among, Or}
use Rattle.ranked.proofs.FirstLaws.{union_as}
use Rattle.wr_rules.specs.Sites.{sites_of}
use Rattle.site_rules.specs.SiteRules.{Depths, Stands, Names, Parts}
use Rattle.site_rules.proofs.faults.first_site_fault.Goals as goal

pub returns : goal.returns
returns c =
    let types = c.args.placed.now.types in
    let sites = sites_of types c.args.placed.now.places in
    union_as (Or (Among sites (Depths types)) (Among sites (Stands types))) (Or (Among sites Names) (Among sites (Parts types))) c.in_ok-first.first c.in_ok-second.second c.earlier.result c.earlier.ensures c.in_ok-first.ensures c.in_ok-second.ensures

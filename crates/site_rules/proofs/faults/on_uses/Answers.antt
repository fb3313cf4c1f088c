use Rattle.ranked.specs.First.{Among, Or}
use Rattle.ranked.proofs.FirstLaws.{within_ok}
use Rattle.wr_rules.specs.Sites.{Site, sites_of}
use Rattle.site_rules.specs.SiteRules.{Depths, Stands}
use Rattle.site_rules.proofs.Together.{apart, together}
use Rattle.site_rules.proofs.faults.on_uses.Goals as goal

pub returns : goal.returns
returns c =
    let types = c.args.placed.now.types in
    let sites = sites_of types c.args.placed.now.places in
    within_ok c.first_in.result (Among sites (λ (s : Site). Or (Depths types s) (Stands types s))) (Or (Among sites (Depths types)) (Among sites (Stands types)))
    (apart sites (Depths types) (Stands types)) (together sites (Depths types) (Stands types)) c.first_in.ensures

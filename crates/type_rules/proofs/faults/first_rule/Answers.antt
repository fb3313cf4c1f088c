use Rattle.ranked.specs.First.{Or}
use Rattle.ranked.proofs.FirstLaws.{union_as}
use Rattle.wr_rules.specs.Sites.{sites_of}
use Rattle.type_rules.specs.Parts.{SiteParts, GraphParts, NameParts}
use Rattle.type_rules.proofs.RuleOrder.{rules_first}
use Rattle.type_rules.proofs.faults.first_rule.Goals as goal

pub returns : goal.returns
returns c =
    let types = c.args.types.now.types in
    let sites = sites_of types c.args.types.now.places in
    let later = union_as (GraphParts types sites) (NameParts types sites) c.in_ok-graphs.graphs c.in_ok-names.names c.earlier.result c.earlier.ensures c.in_ok-graphs.ensures c.in_ok-names.ensures in
    rules_first types sites c.earlier-2.result
    (union_as (SiteParts types sites) (Or (GraphParts types sites) (NameParts types sites)) c.in_ok-sites.sites c.earlier.result c.earlier-2.result c.earlier-2.ensures c.in_ok-sites.ensures later)

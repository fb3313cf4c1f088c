use Rattle.ranked.proofs.FirstLaws.{union_as}
use Rattle.wr_rules.specs.Sites.{sites_of}
use Rattle.wr_rules.specs.NameRules.{IsNamespaceClash, IsDuplicateId}
use Rattle.type_rules.proofs.faults.of_names.Goals as goal

pub returns : goal.returns
returns c =
    let types = c.args.types.now.types in
    let sites = sites_of types c.args.types.now.places in
    union_as (IsNamespaceClash sites) (IsDuplicateId types sites) c.in_ok-names.names c.in_ok-ids.ids c.earlier.result c.earlier.ensures c.in_ok-names.ensures c.in_ok-ids.ensures

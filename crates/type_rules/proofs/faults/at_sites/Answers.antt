use Rattle.ranked.proofs.FirstLaws.{union_as}
use Rattle.wr_rules.specs.Sites.{sites_of}
use Rattle.site_rules.specs.SiteRules.{SiteRules}
use Rattle.member_faults.specs.MemberFaults.{MemberFaults}
use Rattle.type_rules.proofs.faults.at_sites.Goals as goal

pub returns : goal.returns
returns c =
    let types = c.args.types.now.types in
    let sites = sites_of types c.args.types.now.places in
    union_as (SiteRules types sites) (MemberFaults types sites) c.in_ok-alone.alone c.in_ok-members.members c.earlier.result c.earlier.ensures c.in_ok-alone.ensures c.in_ok-members.ensures

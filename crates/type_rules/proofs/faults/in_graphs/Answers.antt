use Rattle.ranked.specs.First.{Among}
use Rattle.ranked.proofs.FirstLaws.{union_as}
use Rattle.wr_rules.specs.Sites.{sites_of}
use Rattle.wr_rules.specs.ListRules.{IsStructCycle}
use Rattle.type_rules.specs.Parts.{Lists}
use Rattle.type_rules.proofs.faults.in_graphs.Goals as goal

pub returns : goal.returns
returns c =
    let types = c.args.types.now.types in
    let sites = sites_of types c.args.types.now.places in
    union_as (Lists types sites) (Among sites (IsStructCycle types)) c.in_ok-lists.lists c.in_ok-structs.structs c.earlier.result c.earlier.ensures c.in_ok-lists.ensures c.in_ok-structs.ensures

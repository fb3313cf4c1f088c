use Rattle.ranked.proofs.FirstLaws.{union_as}
use Rattle.use_rules.proofs.gathered.BothOnUsesUsesRule.first_of.Goals as goal

pub returns : goal.returns
returns g c =
    union_as (g.A.UsesRule.broken c.args.self.now.first c.args.gathered.now) (g.B.UsesRule.broken c.args.self.now.second c.args.gathered.now) c.in_ok-first.first c.in_ok-second.second
    c.earlier.result c.earlier.ensures c.in_ok-first.ensures c.in_ok-second.ensures

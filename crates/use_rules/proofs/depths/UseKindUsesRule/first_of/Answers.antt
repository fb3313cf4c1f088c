use Rattle.std.proofs.Common.{◌&&◌}
use Rattle.ranked.proofs.FirstLaws.{union_as}
use Rattle.wr_base.specs.declared.code.Code.TheVariants.{UseKind}
use Rattle.wr_rules.specs.Uses.{Used}
use Rattle.wr_rules.specs.UseRules.{Each, EachInside, is_bare, is_passed}
use Rattle.use_rules.proofs.depths.UseKindUsesRule.first_of.Goals as goal

pub returns : goal.returns
returns c =
    union_as (Each c.args.self.now.types.now UseKind (λ (u : Used). is_passed u.role && is_bare c.args.self.now.types.now u.use_) c.args.gathered.now)
    (EachInside c.args.self.now.types.now UseKind (is_bare c.args.self.now.types.now) c.args.gathered.now) c.in_ok-first.first c.in_ok-second.second c.earlier.result c.earlier.ensures
    c.in_ok-first.ensures c.in_ok-second.ensures

use Rattle.wr_rules.specs.Sites.{sites_of}
use Rattle.wr_rules.specs.MemberRules.{IsOverloadKind, IsMemberCase, IsAccessorClash}
use Rattle.wr_rules.specs.FactoryRules.{IsConstructorArity, IsFactoryShape}
use Rattle.member_faults.proofs.Together.{first_of_five}
use Rattle.member_faults.proofs.faults.first_member_fault.Goals as goal

pub returns : goal.returns
returns c =
    first_of_five (sites_of c.args.placed.now.types c.args.placed.now.places) IsOverloadKind IsMemberCase IsAccessorClash (IsConstructorArity (sites_of c.args.placed.now.types c.args.placed.now.places))
    (IsFactoryShape c.args.placed.now.types (sites_of c.args.placed.now.types c.args.placed.now.places)) c.first_in.result c.first_in.ensures

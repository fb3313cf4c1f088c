use Rattle.std.proofs.Common.{◌≡◌, take}
use Rattle.std.specs.List.{filter_map}
use Rattle.wr_rules.specs.Members.{signature_in}
use Rattle.wr_rules.specs.MemberRules.{with_spot}
use Rattle.factory_rules.proofs.arity.signatures.Given as goal

abbrev pub invariant-loop-member : goal.invariant-loop-member
invariant-loop-member l = l.list.items ≡ filter_map (λ m. with_spot m.spot (signature_in m.part)) (take l.member-index l.members)

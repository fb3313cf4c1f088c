use Rattle.std.proofs.Common.{rules, arith}
use Rattle.midl_names.specs.Views.{item_of}
use Rattle.midl_tree.specs.Views.{class_member_view}
use Rattle.midl_names.specs.Constructors.{doubled}
use Rattle.midl_names.specs.Faults.{Gives}
use Rattle.midl_names.proofs.Firsts.{viewed, one_more_given}
use Rattle.ranked.proofs.FirstLaws.{none_below}
use Rattle.midl_names.proofs.constructors.doubled_among.Goals as goal

pub loop-member-preserved : goal.loop-member-preserved
loop-member-preserved c = one_more_given _ _ _ _ _ _ _ c.member-item.is c.earlier-first.ensures c.loop-member.invariant c.in_ok-doubled.ensures (search rules)

pub returns : goal.returns
returns c = viewed (λ m. class_member_view m.now) c.args.members.now (λ m. Gives (doubled (item_of c.args.item.now) m)) c.loop-member.member-index c.loop-member.first c.loop-member.invariant (omega arith)

pub loop-member-init : goal.loop-member-init
loop-member-init c = none_below _

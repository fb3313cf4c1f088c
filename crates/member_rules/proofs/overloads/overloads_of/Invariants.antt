use Rattle.std.proofs.Common.{◌≡◌, map, take}
use Rattle.std.specs.List.{filter_map}
use Rattle.wr_rules.specs.MemberRules.{overload_of}
use Rattle.member_rules.specs.Overloads.{overload_view}
use Rattle.member_rules.proofs.overloads.overloads_of.Given as goal

abbrev pub invariant-loop-member : goal.invariant-loop-member
invariant-loop-member l = map overload_view l.list.items ≡ filter_map overload_of (take l.member-index l.members)

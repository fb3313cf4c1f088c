use Rattle.std.proofs.Common.{◌≡◌, ◌++◌, map, take}
use Rattle.std.specs.List.{flat_map}
use Rattle.wr_rules.specs.Uses.{member_uses}
use Rattle.site_uses.specs.Views.{used_view}
use Rattle.site_uses.proofs.site_uses.push_members.Given as goal

abbrev pub invariant-loop-member : goal.invariant-loop-member
invariant-loop-member l = map used_view l.list.items ≡ map used_view l.initial.list.items ++ flat_map member_uses (take l.member-index l.members)

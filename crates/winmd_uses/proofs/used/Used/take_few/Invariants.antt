use Rattle.std.proofs.Common.{[], map, take}
use Rattle.wr_base.specs.Trees.{member_tree}
use Rattle.winmd_sets.specs.Members.{members_lines}
use Rattle.winmd_uses.specs.Takes.{Takes, lines_say}
use Rattle.winmd_uses.proofs.used.Used.take_few.Given as goal

abbrev pub invariant-loop-i : goal.invariant-loop-i
invariant-loop-i l = Takes (lines_say (members_lines [] (map member_tree (take l.i l.members)))) l.initial.self l.self

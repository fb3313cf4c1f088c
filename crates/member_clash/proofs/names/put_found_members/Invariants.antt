use Rattle.std.proofs.Common.{take}
use Rattle.std.specs.List.{flat_map}
use Rattle.numbered.specs.Numbers.{number_in}
use Rattle.member_clash.specs.Names.{Put}
use Rattle.wr_rules.specs.Members.{found_names}
use Rattle.found_table.specs.Views.{member_view}
use Rattle.found_table.specs.declared.found.FoundMember.{FoundMember}
use Rattle.member_clash.proofs.names.put_found_members.Given as goal

abbrev pub invariant-loop-member : goal.invariant-loop-member
invariant-loop-member l = Put (number_in l.initial.numbers) (number_in l.numbers) l.numbers.count (flat_map (λ (m : FoundMember). found_names (member_view m)) (take l.member-index l.members)) l.initial.list.items l.list.items

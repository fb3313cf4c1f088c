use Rattle.std.proofs.Common.{take}
use Rattle.std.specs.List.{flat_map}
use Rattle.numbered.specs.Numbers.{number_in}
use Rattle.member_clash.specs.Names.{Put, names_in}
use Rattle.member_clash.proofs.names.put_members.Given as goal

abbrev pub invariant-loop-member : goal.invariant-loop-member
invariant-loop-member l = Put (number_in l.initial.numbers) (number_in l.numbers) l.numbers.count (flat_map names_in (take l.member-index l.members)) l.initial.list.items l.list.items

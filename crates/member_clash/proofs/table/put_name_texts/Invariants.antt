use Rattle.std.proofs.Common.{take}
use Rattle.member_clash.specs.Tables.{Entered}
use Rattle.member_clash.proofs.table.put_name_texts.Given as goal

abbrev pub invariant-loop-name : goal.invariant-loop-name
invariant-loop-name l = Entered l.types l.initial.table l.table (take l.name-index l.names) l.initial.set.items l.set.items

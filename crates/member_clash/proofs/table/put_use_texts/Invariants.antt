use Rattle.std.proofs.Common.{take, map}
use Rattle.wr_base.specs.Uses.{text_of}
use Rattle.member_clash.specs.Tables.{Entered}
use Rattle.member_clash.proofs.table.put_use_texts.Given as goal

abbrev pub invariant-loop-ty : goal.invariant-loop-ty
invariant-loop-ty l = Entered l.types l.initial.table l.table (map text_of (take l.ty-index l.uses)) l.initial.set.items l.set.items

use Rattle.std.proofs.Common.{take}
use Rattle.wr_rules.specs.NameRules.{reserved_ids}
use Rattle.id_table.specs.Taken.{owner}
use Rattle.id_rules.specs.Reserved.{Owns}
use Rattle.id_rules.proofs.reserved.reserved_owners.Given as goal

abbrev pub invariant-loop-i : goal.invariant-loop-i
invariant-loop-i l = Owns (owner l.owners) 4294967295 (take l.i reserved_ids)

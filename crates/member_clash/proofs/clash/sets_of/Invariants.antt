use Rattle.std.proofs.Common.{take}
use Rattle.chains.specs.Groups.{graph_of}
use Rattle.numbered.specs.Numbers.{number_in}
use Rattle.member_clash.specs.Tables.{KnownIn, Knows}
use Rattle.member_clash.proofs.clash.sets_of.Given as goal

abbrev pub invariant-loop-i : goal.invariant-loop-i
invariant-loop-i l = record {
  known : KnownIn l.types l.table;
  sets : Knows (number_in l.table.texts) (take l.i l.types) (graph_of l.sets.items);
}

use Rattle.std.proofs.Common.{arith}
use Rattle.strings_heap.proofs.MarkLaws.{bit_at_behind, bit_at_behind_none}
use Rattle.strings_heap.proofs.marks.marked.Goals as goal

pub returns-then-first-clause-behind : goal.returns-then-first-clause-behind
returns-then-first-clause-behind c k below = bit_at_behind c.args.marks 1 k (omega arith) below

pub returns-else-first-clause-behind : goal.returns-else-first-clause-behind
returns-else-first-clause-behind c k below = bit_at_behind_none c.args.marks k below

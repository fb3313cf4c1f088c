use Rattle.std.proofs.Common.{sym, arith}
use Rattle.std.specs.HashMap.{get_by_text}
use Rattle.midl_names.specs.Counts.{count_at}
use Rattle.midl_names.proofs.Within.{limits}
use Rattle.midl_names.proofs.lookup.limit_of.Goals as goal

pub returns-then-declared-lt-LONGEST_FOUND : goal.returns-then-declared-lt-LONGEST_FOUND
returns-then-declared-lt-LONGEST_FOUND c =
    limits (get_by_text c.args.index.now.sorts) (count_at c.args.index.now.longest) c.args.path.now 41 c.longest_of-declared.ensures.within (omega arith)
    (rw (sym c.longest_of-declared.ensures.value) (omega (arith, c.if-declared-lt-LONGEST_FOUND.true)))

pub returns-else-declared-lt-LONGEST_FOUND : goal.returns-else-declared-lt-LONGEST_FOUND
returns-else-declared-lt-LONGEST_FOUND c =
    limits (get_by_text c.args.index.now.sorts) (count_at c.args.index.now.longest) c.args.path.now c.longest_of-declared.result c.longest_of-declared.ensures.within (omega (arith, c.if-declared-lt-LONGEST_FOUND.false))
    (rw (sym c.longest_of-declared.ensures.value) (omega arith))

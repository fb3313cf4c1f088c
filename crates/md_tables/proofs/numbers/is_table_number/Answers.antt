use Rattle.std.proofs.Common.{None, ap, sym}
use Rattle.std.specs.Prelude.{is_some}
use Rattle.std.proofs.lemmas.List.{get_or_past}
use Rattle.md_tables.specs.Numbers.{by_number}
use Rattle.md_tables.proofs.numbers.is_table_number.Goals as goal

pub returns-then-n-ge45 : goal.returns-then-n-ge45
returns-then-n-ge45 c = sym (ap is_some (get_or_past by_number c.args.n None c.if-n-ge45.true))

use Rattle.winmd_writer.proofs.FinishLaws.{on_ok}
use Rattle.winmd_writer.proofs.TableLaws.{two_sorted}
use Rattle.winmd_writer.proofs.sorting.sort_tables.Goals as goal

pub returns : goal.returns
returns c =
    on_ok c.sort_rows-2.result _ _
    (λ e i t. two_sorted c.args.set.now.tables.items c.sort_rows.new.rows c.sort_rows-2.new.rows c.index_mut.result.now c.index_mut-2.result.now c.args.set.now.all
    c.index_mut.ensures.value c.index_mut-2.ensures.value c.in_ok-sort_rows.ensures e t i)
    c.sort_rows-2.ensures

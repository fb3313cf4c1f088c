use Rattle.std.proofs.Common.{◌∙◌, get_or, sym}
use Rattle.std.proofs.lemmas.List.{get_or_default}
use Rattle.md_schema.specs.declared.table.Table.TheVariants as tables
use Rattle.md_tables.specs.declared.lists.RowList.{RowList}
use Rattle.md_tables.specs.Rows.{rows_of}
use Rattle.md_tables.proofs.DisorderLemmas.{disorder_here, disorder_none, disorder_on}
use Rattle.md_tables.proofs.read.first_disorder.Goals as goal

none : RowList
none = record { owner = tables.Module; column = 0; member = tables.Module }

pub returns-in-Some : goal.returns-in-Some
unfolding none
returns-in-Some c =
    let list : RowList = get_or c.args.lists.now c.loop-list.list-index none in
    sym (disorder_here (rows_of c.args.view.now) c.args.lists.now c.loop-list.list-index c.in-Some.row list c.loop-list-test.true
    (get_or_default c.args.lists.now c.loop-list.list-index none list c.loop-list-test.true) (sym c.first_row.ensures ∙ c.in-Some.is)) ∙ c.loop-list.invariant

pub loop-list-preserved : goal.loop-list-preserved
unfolding none
loop-list-preserved c =
    let list : RowList = get_or c.args.lists.now c.loop-list.list-index none in
    sym (disorder_on (rows_of c.args.view.now) c.args.lists.now c.loop-list.list-index list c.loop-list-test.true
    (get_or_default c.args.lists.now c.loop-list.list-index none list c.loop-list-test.true) (sym c.first_row.ensures ∙ c.in-None.is)) ∙ c.loop-list.invariant

pub returns : goal.returns
returns c = sym (disorder_none (rows_of c.args.view.now) c.args.lists.now c.loop-list.list-index c.loop-list-test.false) ∙ c.loop-list.invariant

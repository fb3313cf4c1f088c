use Rattle.std.proofs.Common.{◌≡◌, ◌∙◌, false, sym, ap}
use Rattle.std.specs.Str.{bytes_eq}
use Rattle.found_table.specs.Table.{builtin, name_of, table}
use Rattle.found_table.specs.Views.{found_view}
use Rattle.found_table.proofs.RowLemmas.{row_later}
use Rattle.found_table.proofs.table.builtin.Goals as goal

pub loop-place-preserved : goal.loop-place-preserved
loop-place-preserved c =
    let other : bytes_eq c.args.name.now (name_of (found_view c.row_at-row.result)) ≡ false = ap (bytes_eq c.args.name.now) (sym c.name.ensures) ∙ sym c.eq.ensures ∙ c.if-eq.false in
    row_later table c.loop-place.place (found_view c.row_at-row.result) c.args.name.now (builtin c.args.name.now) c.row_at-row.ensures c.loop-place.invariant other

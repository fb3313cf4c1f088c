use Rattle.std.proofs.Common.{◌≡◌, ◌+◌, ◌^◌, ◌∙◌, ◌<◌, ◌≤◌, ℕ, List, refl, get_or, length, subst, sym, arith}
use Rattle.md_schema.specs.Schema.{columns_of}
use Rattle.md_schema.specs.Tables.{rows_from, sizes_of, table_start}
use Rattle.md_tables.proofs.WidthLemmas.{narrow_all}
use Rattle.winmd_cells.proofs.SizeLaws.{few_columns, low_place}
use Rattle.winmd_cells.proofs.image.Image.offset.Goals as goal

pub sum-requires-clause-few : goal.sum-requires-clause-few
sum-requires-clause-few c = subst (λ (ws : List ℕ). length ws ≤ 9) (sym c.widths-widths.ensures) (few_columns (sizes_of c.args.self.now.stream.now) c.args.table)

pub sum-requires-clause-narrow : goal.sum-requires-clause-narrow
sum-requires-clause-narrow c = λ i. subst (λ (ws : List ℕ). get_or ws i 0 ≤ 4) (sym c.widths-widths.ensures) (narrow_all (sizes_of c.args.self.now.stream.now) (columns_of c.args.table) i)

pub sum_before-requires-clause-narrow : goal.sum_before-requires-clause-narrow
sum_before-requires-clause-narrow c = λ i. subst (λ (ws : List ℕ). get_or ws i 0 ≤ 4) (sym c.widths-widths.ensures) (narrow_all (sizes_of c.args.self.now.stream.now) (columns_of c.args.table) i)

pub overflow_add-result-2 : goal.overflow_add-result-2
overflow_add-result-2 c =
    let low : c.entry-start.result < 2 ^ 50 = rw (c.entry-start.ensures, c.as_slice.ensures.value, c.place.ensures.value) (c.args.self.now.near c.args.table) in
    let row = c.ranges.row.fits in
    let h = low_place c.entry-start.result c.saturating_sub-above.result c.sum.result c.sum_before.result low (omega (arith, row, c.saturating_sub-above.ensures)) c.sum.ensures.small c.sum_before.ensures.small in
    omega (arith, h)

pub overflow_add-result-3 : goal.overflow_add-result-3
overflow_add-result-3 c =
    let low : c.entry-start.result < 2 ^ 50 = rw (c.entry-start.ensures, c.as_slice.ensures.value, c.place.ensures.value) (c.args.self.now.near c.args.table) in
    let row = c.ranges.row.fits in
    let h = low_place c.entry-start.result c.saturating_sub-above.result c.sum.result c.sum_before.result low (omega (arith, row, c.saturating_sub-above.ensures)) c.sum.ensures.small c.sum_before.ensures.small in
    let at = c.args.self.now.low in
    omega (arith, h, at)

pub returns : goal.returns
returns c =
    let start : c.entry-start.result ≡ rows_from c.args.self.now.stream.now + table_start (sizes_of c.args.self.now.stream.now) c.args.table =
    c.entry-start.ensures ∙ rw (c.as_slice.ensures.value, c.place.ensures.value) (c.args.self.now.started c.args.table) in
    rw (start, c.sum_before.ensures.value, c.saturating_sub-above.ensures, c.sum.ensures.value, c.widths-widths.ensures) refl

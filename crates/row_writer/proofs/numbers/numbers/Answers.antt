use Rattle.std.proofs.Common.{◌≡◌, ℕ, suc, ◌+◌, List, length, take, map, ap, sym, subst, ◌∙◌, arith}
use Rattle.std.proofs.lemmas.List.{take_all, length-map}
use Rattle.md_heaps.specs.Blobs.{blob_bytes}
use Rattle.md_heaps.specs.Texts.{text_bytes}
use Rattle.winmd_rows.specs.Values.{Text, Blob}
use Rattle.row_writer.proofs.TightLaws.{grew_cell}
use Rattle.md_schema.specs.declared.column.Column.{Column}
use Rattle.md_schema.specs.declared.column.Column.TheVariants.{One}
use Rattle.md_tables.specs.Rows.{rows_in}
use Rattle.winmd_rows.specs.Values.{Value}
use Rattle.row_writer.specs.declared.cell.Cell.TheVariants as cells
use Rattle.row_writer.specs.Known.{Says}
use Rattle.row_writer.specs.Lines.{counts, value_of}
use Rattle.row_writer.proofs.CellLaws.{fits_length, fits_at, says_next}
use Rattle.md_heaps.proofs.HeapLaws.{keeps_on}
use Rattle.row_writer.proofs.numbers.numbers.Goals as goal

pub bounds-columns-i : goal.bounds-columns-i
bounds-columns-i c = omega (arith, c.loop-i-test.true, fits_length c.args.columns.now c.args.cells.now c.requires.fits)

pub number-requires-clause-fits : goal.number-requires-clause-fits
number-requires-clause-fits c = fits_at c.args.columns.now c.args.cells.now c.loop-i.i One (cells.Number 0) c.requires.fits c.loop-i-test.true

pub returns-in_err-number-clause-texts : goal.returns-in_err-number-clause-texts
returns-in_err-number-clause-texts c = keeps_on c.args.texts.now c.loop-i.texts c.number.new.texts c.loop-i.invariant.0 c.number.ensures.texts

pub returns-in_err-number-clause-blobs : goal.returns-in_err-number-clause-blobs
returns-in_err-number-clause-blobs c = keeps_on c.args.blobs.now c.loop-i.blobs c.number.new.blobs c.loop-i.invariant.1 c.number.ensures.blobs

pub push-requires : goal.push-requires
push-requires c =
    let many = fits_length c.args.columns.now c.args.cells.now c.requires.fits in
    omega (arith, c.loop-i.invariant.6, c.loop-i-test.true, many, c.requires.few_columns)

pub loop-i-preserved : goal.loop-i-preserved
loop-i-preserved c = (
  keeps_on c.args.texts.now c.loop-i.texts c.number.new.texts c.loop-i.invariant.0 c.number.ensures.texts,
  keeps_on c.args.blobs.now c.loop-i.blobs c.number.new.blobs c.loop-i.invariant.1 c.number.ensures.blobs,
  c.number.ensures.standing,
  (let next = says_next c.loop-i.texts c.loop-i.blobs c.number.new.texts c.number.new.blobs c.number.ensures.texts c.number.ensures.blobs c.number.ensures.standing (value_of (counts (rows_in c.args.set.now)))
      c.args.columns.now c.args.cells.now c.loop-i.row.items c.loop-i.i c.in_ok-number.field-0 One (cells.Number 0) c.requires.fits c.loop-i-test.true c.loop-i.invariant.3 c.in_ok-number.ensures.value in
      let one : suc c.loop-i.i ≡ c.loop-i.i + 1 = omega arith in
      subst (λ (k : ℕ). Says c.number.new.texts c.number.new.blobs (take k c.args.columns.now) c.push.new.self.items (take k (map (value_of (counts (rows_in c.args.set.now))) c.args.cells.now))) one
      (subst (λ (ns : List ℕ). Says c.number.new.texts c.number.new.blobs (take (suc c.loop-i.i) c.args.columns.now) ns (take (suc c.loop-i.i) (map (value_of (counts (rows_in c.args.set.now))) c.args.cells.now))) (sym c.push.ensures.items) next)),
  grew_cell text_bytes Text (value_of (counts (rows_in c.args.set.now))) c.args.cells.now c.loop-i.i (cells.Number 0) c.args.texts.now c.loop-i.texts c.number.new.texts c.loop-i-test.true c.loop-i.invariant.4 c.in_ok-number.ensures.grew_texts,
  grew_cell blob_bytes Blob (value_of (counts (rows_in c.args.set.now))) c.args.cells.now c.loop-i.i (cells.Number 0) c.args.blobs.now c.loop-i.blobs c.number.new.blobs c.loop-i-test.true c.loop-i.invariant.5 c.in_ok-number.ensures.grew_blobs,
  c.push.ensures.len ∙ ap (λ (n : ℕ). n + 1) c.loop-i.invariant.6,
)

pub returns-clause-says : goal.returns-clause-says
returns-clause-says c =
    let values : List Value = map (value_of (counts (rows_in c.args.set.now))) c.args.cells.now in
    let many = fits_length c.args.columns.now c.args.cells.now c.requires.fits in
    let long : length values ≡ length c.args.cells.now = length-map c.args.cells.now (value_of (counts (rows_in c.args.set.now))) in
    let all_columns : take c.loop-i.i c.args.columns.now ≡ c.args.columns.now = take_all c.loop-i.i c.args.columns.now (omega (arith, c.loop-i-test.false, many)) in
    let all_values : take c.loop-i.i values ≡ values = take_all c.loop-i.i values (omega (arith, c.loop-i-test.false, long)) in
    subst (λ (cs : List Column). Says c.loop-i.texts c.loop-i.blobs cs c.loop-i.row.items values) all_columns
    (subst (λ (vs : List Value). Says c.loop-i.texts c.loop-i.blobs (take c.loop-i.i c.args.columns.now) c.loop-i.row.items vs) all_values c.loop-i.invariant.3)

use Rattle.std.proofs.Common.{◌≡◌, ◌+◌, suc, refl, ◌∙◌, ap, arith}
use Rattle.md_tables.specs.Rows.{rows_in}
use Rattle.winmd_rows.specs.Indices.{index_of}
use Rattle.row_writer.specs.declared.cell.Cell.TheVariants as cells
use Rattle.md_heaps.specs.Blobs.{blob_bytes}
use Rattle.md_heaps.specs.Texts.{text_bytes}
use Rattle.winmd_rows.specs.Values.{Text, Blob}
use Rattle.row_writer.specs.Lines.{counts, value_of}
use Rattle.row_writer.proofs.TightLaws.{grew_said}
use Rattle.row_writer.proofs.CellLaws.{row_case}
use Rattle.row_writer.proofs.LineLaws.{if_ok}
use Rattle.row_writer.proofs.numbers.number.Goals as goal

pub returns-in-To-clause-value : goal.returns-in-To-clause-value
returns-in-To-clause-value c =
    if_ok c.index.result _ _
    (λ n e. row_case c.args.texts.now c.args.blobs.now c.args.column (counts (rows_in c.args.set.now)) c.args.cell (cells.To c.in-To.table c.in-To.row) c.in-To.table c.in-To.row n c.in-To.is c.requires.fits refl refl e)
    c.index.ensures

pub returns-in-Last-clause-value : goal.returns-in-Last-clause-value
returns-in-Last-clause-value c =
    if_ok c.index-in-Last.result _ _
    (λ n e. row_case c.args.texts.now c.args.blobs.now c.args.column (counts (rows_in c.args.set.now)) c.args.cell (cells.Last c.in-Last.table) c.in-Last.table (counts (rows_in c.args.set.now) c.in-Last.table) n c.in-Last.is c.requires.fits refl refl
    (e ∙ ap (index_of c.args.column c.in-Last.table) c.count.ensures))
    c.index-in-Last.ensures

pub returns-in-Next-clause-value : goal.returns-in-Next-clause-value
returns-in-Next-clause-value c =
    if_ok c.index-in-Next.result _ _
    (λ n e. row_case c.args.texts.now c.args.blobs.now c.args.column (counts (rows_in c.args.set.now)) c.args.cell (cells.Next c.in-Next.table) c.in-Next.table (suc (counts (rows_in c.args.set.now) c.in-Next.table)) n c.in-Next.is c.requires.fits refl refl
    (e ∙ ap (index_of c.args.column c.in-Next.table) (let k : c.count-in-Next.result + 1 ≡ suc (counts (rows_in c.args.set.now) c.in-Next.table) = omega (arith, c.count-in-Next.ensures) in k)))
    c.index-in-Next.ensures

pub returns-in-Words-clause-grew_texts : goal.returns-in-Words-clause-grew_texts
returns-in-Words-clause-grew_texts c =
    if_ok c.intern_text.result _ _
    (λ n g. grew_said text_bytes Text (value_of (counts (rows_in c.args.set.now)) c.args.cell) c.in-Words.text.now c.args.texts.now c.intern_text.new.texts (ap (value_of (counts (rows_in c.args.set.now))) c.in-Words.is) g)
    c.intern_text.ensures.grew

pub returns-in-Bytes-clause-grew_blobs : goal.returns-in-Bytes-clause-grew_blobs
returns-in-Bytes-clause-grew_blobs c =
    if_ok c.intern_blob.result _ _
    (λ n g. grew_said blob_bytes Blob (value_of (counts (rows_in c.args.set.now)) c.args.cell) c.in-Bytes.bytes.now c.args.blobs.now c.intern_blob.new.blobs (ap (value_of (counts (rows_in c.args.set.now))) c.in-Bytes.is) g)
    c.intern_blob.ensures.grew

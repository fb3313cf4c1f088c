use Rattle.std.proofs.Common.{ℕ, List, subst}
use Rattle.md_schema.specs.declared.table.Table.{Table}
use Rattle.md_tables.specs.Rows.{rows_in}
use Rattle.winmd_writer.specs.Finished.{ImageOf}
use Rattle.winmd_writer.specs.Sorted.{all_sorted}
use Rattle.winmd_writer.proofs.FinishLaws.{if_ok, strict_by}
use Rattle.winmd_writer.proofs.finish.finished.Goals as goal

pub returns : goal.returns
returns c =
    let raws : Table → List (List ℕ) = rows_in c.args.writer.set in
    if_ok c.image.result (λ bytes. ImageOf c.bytes-texts.result.now c.bytes-blobs.result.now (rows_in c.sort_tables.new.set) bytes.items) _
    (λ bytes image. strict_by c.args.writer.texts c.args.writer.blobs c.args.writer.standing raws c.args.writer.known bytes.items c.bytes-texts.ensures.standing c.args.writer.empty_text c.args.writer.empty_blob
    (c.args.writer.tight_texts c.if-writer.false) (c.args.writer.tight_blobs c.if-writer.false)
    (subst (λ (b : List ℕ). ImageOf c.args.writer.texts.bytes b (all_sorted raws) bytes.items) c.bytes-blobs.ensures.bytes
    (subst (λ (t : List ℕ). ImageOf t c.bytes-blobs.result.now (all_sorted raws) bytes.items) c.bytes-texts.ensures.bytes
    (subst (λ (r : Table → List (List ℕ)). ImageOf c.bytes-texts.result.now c.bytes-blobs.result.now r bytes.items) c.in_ok-sort_tables.ensures image))))
    c.image.ensures

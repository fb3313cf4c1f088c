use Rattle.std.proofs.Common.{◌≡◌, ◌∙◌, ℕ, List, refl, ap, subst}
use Rattle.md_schema.specs.declared.sizes.Sizes.{Sizes}
use Rattle.md_schema.specs.declared.table.Table.{Table}
use Rattle.md_schema.specs.Written.{Fit, table_bytes}
use Rattle.md_tables.specs.Rows.{rows_in, sizes_in}
use Rattle.md_tables.proofs.WholeLemmas.{fits_all}
use Rattle.winmd_image.specs.Parts.{Small, padded_types}
use Rattle.winmd_image.specs.Spelled.{image_bytes}
use Rattle.winmd_strict.specs.Placed.{sizes_of_rows}
use Rattle.winmd_writer.proofs.FinishLaws.{if_ok}
use Rattle.winmd_writer.proofs.finish.image.Goals as goal

pub returns : goal.returns
returns c =
    let raws : Table → List (List ℕ) = rows_in c.args.set.now in
    let writable = c.is_writable.ensures.0 c.if-not-is_writable.false in
    let stream : c.in_ok-tables.tables.items ≡ table_bytes (sizes_of_rows c.args.texts.now c.args.blobs.now raws) raws =
    c.in_ok-tables.ensures.bytes ∙ ap (λ (s : Sizes). table_bytes s raws) c.requires in
    let room = c.is_small.ensures.0 c.if-not-is_small.false in
    if_ok c.wrap_types.result (λ bytes. bytes.items ≡ image_bytes (padded_types c.deref-2.result.now c.args.texts.now c.args.blobs.now)) _
    (λ bytes spelled. record {
      spelled = spelled ∙ ap (λ (t : List ℕ). image_bytes (padded_types t c.args.texts.now c.args.blobs.now)) (c.deref-2.ensures.value ∙ stream);
      columns = subst (λ (s : Sizes). Fit s raws) c.requires (fits_all (sizes_in c.args.set.now) raws refl writable.few writable.fits);
      small = subst (λ (t : List ℕ). Small (padded_types t c.args.texts.now c.args.blobs.now)) (c.deref.ensures.value ∙ stream) room;
    }) c.wrap_types.ensures

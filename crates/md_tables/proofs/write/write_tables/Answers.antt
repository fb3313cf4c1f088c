use Rattle.std.proofs.Common.{◌≡◌, ℕ, List, None, refl, sym, subst}
use Rattle.md_schema.specs.declared.sizes.Sizes.{Sizes}
use Rattle.md_schema.specs.Tables.{raw}
use Rattle.md_schema.specs.Written.{Fit}
use Rattle.md_tables.specs.Faults.{fault_of}
use Rattle.md_tables.specs.Numbers.{Rows}
use Rattle.md_tables.specs.Rows.{rows_in, sizes_in}
use Rattle.md_tables.proofs.WholeLemmas.{faultless, fits_all, written_rows}
use Rattle.md_tables.proofs.write.write_tables.Goals as goal

pub returns : goal.returns
returns c =
    let sizes : Sizes = sizes_in c.args.set.now in
    let rows : Rows = rows_in c.args.set.now in
    let fit : Fit sizes rows = fits_all sizes rows refl c.requires.few c.requires.fits in
    record {
      bytes = c.in_ok-bytes.ensures;
      rows = λ t. subst (λ (x : List ℕ). raw x t ≡ rows t) (sym c.in_ok-bytes.ensures) (written_rows sizes rows fit t);
      faultless = subst (λ (x : List ℕ). fault_of x ≡ None) (sym c.in_ok-bytes.ensures) (faultless sizes rows fit refl c.requires.ordered);
    }

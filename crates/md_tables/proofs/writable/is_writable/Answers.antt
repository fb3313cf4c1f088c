use Rattle.std.proofs.Common.{◌<◌, ◌^◌, length, subst, sym, ◌∙◌}
use Rattle.std.specs.List.{AllByRecursion}
use Rattle.md_schema.specs.declared.sizes.Sizes.{Sizes}
use Rattle.md_schema.specs.Schema.{all_tables}
use Rattle.md_schema.specs.Tables.{widths_of}
use Rattle.md_schema.specs.Written.{RowFits}
use Rattle.md_tables.specs.Rows.{rows_in, sizes_in}
use Rattle.md_tables.proofs.WritableLemmas.{all_have, each_has}
use Rattle.md_tables.proofs.writable.is_writable.Goals as goal

pub sizes-sizes-requires : goal.sizes-sizes-requires
sizes-sizes-requires c = each_has (λ table. length (rows_in c.args.set.now table) < 2 ^ 24) (c.has_few_rows.ensures.0 c.if-not-has_few_rows.false)

pub returns-then-not-has_few_rows : goal.returns-then-not-has_few_rows
returns-then-not-has_few_rows c =
    (λ t. absurd cc, λ w. sym c.if-not-has_few_rows.true ∙ c.has_few_rows.ensures.1 (all_have (λ table. length (rows_in c.args.set.now table) < 2 ^ 24) all_tables w.few))

pub returns-then-all_fit : goal.returns-then-all_fit
returns-then-all_fit c = (
  λ t. record {
    few = each_has (λ table. length (rows_in c.args.set.now table) < 2 ^ 24) (c.has_few_rows.ensures.0 c.if-not-has_few_rows.false);
    fits = each_has (λ table. AllByRecursion (RowFits (widths_of (sizes_in c.args.set.now) table)) (rows_in c.args.set.now table))
        (subst (λ (s : Sizes). AllByRecursion (λ table. AllByRecursion (RowFits (widths_of s table)) (rows_in c.args.set.now table)) all_tables) c.sizes-sizes.ensures
        (c.all_fit.ensures.0 c.if-all_fit.true));
    ordered = c.is_ordered.ensures.0 t;
  },
  λ w. c.is_ordered.ensures.1 w.ordered,
)

pub returns-else-all_fit : goal.returns-else-all_fit
returns-else-all_fit c = (
  λ t. absurd cc,
  λ w. c.all_fit.ensures.1 (subst (λ (s : Sizes). AllByRecursion (λ table. AllByRecursion (RowFits (widths_of s table)) (rows_in c.args.set.now table)) all_tables) (sym c.sizes-sizes.ensures)
      (all_have (λ table. AllByRecursion (RowFits (widths_of (sizes_in c.args.set.now) table)) (rows_in c.args.set.now table)) all_tables w.fits)),
)

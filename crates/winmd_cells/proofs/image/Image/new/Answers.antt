use Rattle.std.proofs.Common.{◌≡◌, ◌≤◌, ◌∙◌, ap, length, arith}
use Rattle.md_schema.specs.declared.table.Table.{Table}
use Rattle.md_schema.specs.Tables.{sizes_of}
use Rattle.md_schema.specs.Widths.{count_of}
use Rattle.md_tables.proofs.WholeLemmas.{count_raw}
use Rattle.md_tables.specs.Rows.{rows_of}
use Rattle.winmd_cells.proofs.image.Image.new.Goals as goal

pub invariant_of-result : goal.invariant_of-result
invariant_of-result c =
    let counts : (table : Table) → length (rows_of c.args.view.now table) ≡ count_of (sizes_of c.args.stream.now) table = λ table. ap length (c.requires.read table) ∙ count_raw c.args.stream.now table in
    let whole : (table : Table) → length (rows_of c.args.view.now table) ≤ length c.args.places.now.numbers.items = λ table. rw (counts table) (c.requires.places.enough table) in
    record {
      read = c.requires.read;
      few = λ table. (let most = whole table in let short = c.requires.places.short in omega (arith, most, short));
      low = c.requires.low;
      wide = c.requires.places.wide;
      started = c.requires.places.started;
      near = c.requires.places.near;
      enough = whole;
      counted = c.requires.places.counted;
    }

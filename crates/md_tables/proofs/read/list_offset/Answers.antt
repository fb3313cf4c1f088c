use Rattle.std.proofs.Common.{◌≡◌, ◌∙◌, ℕ, ◌+◌, ◌*◌, List, map, take, ap, sym}
use Rattle.std.proofs.lemmas.List.{take-map}
use Rattle.md_bytes.specs.Bytes.{total}
use Rattle.md_schema.specs.declared.column.Column.{Column}
use Rattle.md_schema.specs.declared.table.Table.{Table}
use Rattle.md_schema.specs.declared.sizes.Sizes.{Sizes}
use Rattle.md_schema.specs.Schema.{columns_of}
use Rattle.md_schema.specs.Tables.{row_width, table_size, table_start, widths_of}
use Rattle.md_schema.specs.Widths.{width_of}
use Rattle.md_tables.proofs.read.list_offset.Goals as goal

pub returns : goal.returns
returns c =
    let sizes : Sizes = c.args.header.now.sizes in
    let from : ℕ = c.args.header.now.from in
    let owner : Table = c.args.list.owner in
    let s : c.size_of_tables-start.result ≡ table_start sizes owner =
    c.size_of_tables-start.ensures.value ∙ ap (λ (ts : List Table). total (map (table_size sizes) ts)) c.before-2.ensures.tables in
    let w : c.row_width-width.result ≡ row_width sizes owner =
    c.row_width-width.ensures.value ∙ ap (λ (cs : List Column). total (map (width_of sizes) cs)) c.columns-columns.ensures in
    let r : c.row_width.result ≡ total (take c.args.list.column (widths_of sizes owner)) =
    c.row_width.ensures.value ∙ ap (λ (cs : List Column). total (map (width_of sizes) cs)) (c.first_columns.ensures.columns ∙ ap (take c.args.list.column) c.columns-columns.ensures)
    ∙ ap total (sym (take-map (width_of sizes) c.args.list.column (columns_of owner))) in
    ap (λ (x : ℕ). from + x + c.args.row * c.row_width-width.result + c.row_width.result) s
    ∙ ap (λ (x : ℕ). from + table_start sizes owner + c.args.row * x + c.row_width.result) w
    ∙ ap (λ (x : ℕ). from + table_start sizes owner + c.args.row * row_width sizes owner + x) r

use Rattle.std.proofs.Common.{◌∙◌, [], ◌∷◌, ap}
use Rattle.md_bytes.specs.Bytes.{le}
use Rattle.md_schema.specs.declared.table.Table.TheVariants as tables
use Rattle.row_writer.specs.Known.{Values}
use Rattle.row_writer.specs.Seen.{seen}
use Rattle.winmd_lines.specs.Lines.{line, Number, Last, Bytes}
use Rattle.winmd_rows.specs.Bits.{bits_of_int}
use Rattle.winmd_sets.specs.Members.{element, field_line}
use Rattle.part_rows.specs.Grown.{with_line}
use Rattle.part_rows.specs.Nothing.{nothing}
use Rattle.kind_rows.proofs.LoopLaws.{on_ok}
use Rattle.kind_rows.proofs.enums.put_case.Goals as goal

pub returns : goal.returns
returns g c =
    on_ok c.put_value.result _ _
    (λ e. e ∙ ap (λ (rows : Values). with_line nothing (line tables.Constant (Number (element c.args.flags) ∷ Number 0 ∷ Last tables.Field ∷ Bytes (le 4 (bits_of_int c.args.case.now.value)) ∷ [])) rows)
    (c.in_ok-put_field_row.ensures ∙ (λ i. with_line nothing (field_line 0x8056 (c.as_str.ensures i) (Bytes (c.requires i))) (seen c.args.writer.now))))
    c.put_value.ensures

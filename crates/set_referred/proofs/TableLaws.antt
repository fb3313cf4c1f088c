-- The rows of types stand in tables that TypeDefOrRef names.
use Rattle.std.proofs.Common.{◌≡◌, ℕ, List, refl, sym, ap, subst, ◌∙◌, inl, inr}
use Rattle.std.specs.Prelude.{IsTrue}
use Rattle.md_schema.specs.declared.column.CodedIndex.TheVariants.{TypeDefOrRef}
use Rattle.md_schema.specs.declared.column.Column.TheVariants.{Coded}
use Rattle.md_schema.specs.declared.table.Table.{Table}
use Rattle.md_schema.specs.declared.table.Table.TheVariants as tables
use Rattle.row_writer.specs.Lines.{takes_rows}
use Rattle.winmd_lines.specs.Names.{Names, is_declared, named_row, type_value}
use Rattle.winmd_rows.specs.Values.{Value, To}
use Rattle.winmd_uses.proofs.TakeLaws.{either}
use Rattle.wr_base.specs.Trees.{UseTree, plain, value, reference, instance}

abbrev table_of : Value → Table
table_of (To table row) = table
table_of _ = tables.TypeDef

named_fits : (names : Names) (full : List ℕ) (table : Table) (row : ℕ) → To table row ≡ named_row names full → IsTrue (takes_rows table (Coded TypeDefOrRef))
named_fits names full table row e =
    elim (either (is_declared names.types full)) [
      | inl d ↦ (let is : table ≡ tables.TypeDef = ap table_of e ∙ rw d refl in subst (λ (t : Table). IsTrue (takes_rows t (Coded TypeDefOrRef))) (sym is) refl)
      | inr d ↦ (let is : table ≡ tables.TypeRef = ap table_of e ∙ rw d refl in subst (λ (t : Table). IsTrue (takes_rows t (Coded TypeDefOrRef))) (sym is) refl)
    ]

pub led_fits : (names : Names) (u : UseTree) (table : Table) (row : ℕ) → To table row ≡ type_value names u → IsTrue (takes_rows table (Coded TypeDefOrRef))
led_fits names (plain base) table row e = subst (λ (t : Table). IsTrue (takes_rows t (Coded TypeDefOrRef))) (sym (ap table_of e)) refl
led_fits names (value name) table row e = named_fits names name table row e
led_fits names (reference name) table row e = named_fits names name table row e
led_fits names (instance name us) table row e = subst (λ (t : Table). IsTrue (takes_rows t (Coded TypeDefOrRef))) (sym (ap table_of e)) refl

use Rattle.std.proofs.Common.{◌∙◌, [], ◌∷◌, sym}
use Rattle.md_schema.specs.declared.table.Table.TheVariants as tables
use Rattle.winmd_lines.specs.Makers as makers
use Rattle.winmd_sets.specs.Members.{attribute, when}
use Rattle.winmd_sets.specs.Values.{number_argument}
use Rattle.part_rows.specs.Grown.{with_lines}
use Rattle.kind_rows.specs.Said.{said}
use Rattle.kind_rows.proofs.LoopLaws.{on_ok}
use Rattle.class_rows.proofs.classes.put_direct.Goals as goal

pub returns : goal.returns
returns g c =
    on_ok c.put_on.result _ _
    (λ e. e ∙ sym (λ i. with_lines (g.N.Referred.names c.args.names.now) (when (c.if-not-direct.false i) (attribute tables.TypeDef makers.Activatable (number_argument c.args.version) ∷ [])) (said c.args.out.now)))
    c.put_on.ensures

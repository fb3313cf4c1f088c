use Rattle.std.proofs.Common.{List, [], ◌∷◌, ◌++◌, map}
use Rattle.md_schema.specs.declared.table.Table.TheVariants as tables
use Rattle.winmd_lines.specs.Lines.{Line}
use Rattle.winmd_lines.specs.Makers as makers
use Rattle.winmd_sets.specs.Declared.{named_attribute}
use Rattle.winmd_sets.specs.Members.{attribute, when}
use Rattle.winmd_sets.specs.Values.{number_argument}
use Rattle.kind_rows.proofs.LoopLaws.{on_ok, then_lines}
use Rattle.class_rows.proofs.classes.put_made.Goals as goal

pub returns : goal.returns
returns g c =
    let names = g.N.Referred.names c.args.names.now in
    let made : List Line = map (named_attribute makers.Factory c.args.version) c.args.factories.now in
    let stated : List Line = map (named_attribute makers.Static c.args.version) c.args.statics.now in
    on_ok c.put_all_named-2.result _ _
    (λ e. then_lines names (when c.args.direct (attribute tables.TypeDef makers.Activatable (number_argument c.args.version) ∷ [])) (made ++ stated) _ _ _ c.in_ok-put_direct.ensures
    (then_lines names made stated _ _ _ c.in_ok-put_all_named.ensures e))
    c.put_all_named-2.ensures

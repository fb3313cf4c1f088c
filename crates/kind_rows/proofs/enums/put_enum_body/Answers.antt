use Rattle.std.proofs.Common.{List, [], ◌∷◌, codes}
use Rattle.std.specs.List.{flat_map}
use Rattle.md_schema.specs.declared.table.Table.TheVariants as tables
use Rattle.winmd_lines.specs.Lines.{Line, Bytes}
use Rattle.winmd_lines.specs.Makers as makers
use Rattle.winmd_sets.specs.Declared.{version_of_type}
use Rattle.winmd_sets.specs.Members.{attribute, case_lines, element, field_line, when}
use Rattle.kind_rows.proofs.LoopLaws.{on_ok, then_lines}
use Rattle.kind_rows.proofs.enums.put_enum_body.Goals as goal

pub returns : goal.returns
returns g c =
    let names = g.N.Referred.names c.args.names.now in
    let cases : List Line = flat_map (case_lines c.args.name.now c.args.flags) c.args.cases.now in
    let field : Line = field_line 0x0601 (codes "value__") (Bytes (0x06 ∷ element c.args.flags ∷ [])) in
    let version : Line = version_of_type c.args.version in
    on_ok c.put_own_cases.result _ _
    (λ e. then_lines names (when c.args.flags (attribute tables.TypeDef makers.Flags [] ∷ [])) (version ∷ field ∷ cases) _ _ _ c.in_ok-put_flags.ensures
    (then_lines names (version ∷ []) (field ∷ cases) _ _ _ c.in_ok-put_version.ensures
    (then_lines names (field ∷ []) cases _ _ _ c.in_ok-put_value_field.ensures e)))
    c.put_own_cases.ensures

use Rattle.std.proofs.Common.{◌∙◌, List, ◌++◌, map}
use Rattle.winmd_lines.specs.Lines.{Line}
use Rattle.winmd_lines.specs.Names.{Names}
use Rattle.winmd_sets.specs.Declared.{first_lines}
use Rattle.winmd_sets.specs.Rows.{made_lines, ref_line}
use Rattle.kind_rows.specs.Said.{said}
use Rattle.kind_rows.proofs.LoopLaws.{on_ok, then_lines}
use Rattle.set_referred.specs.Referred.{names_in}
use Rattle.winmd_write.proofs.ImageLaws.{declared_lines, first_any}
use Rattle.winmd_write.proofs.sets.put_set.Goals as goal

pub returns-clause-lines : goal.returns-clause-lines
returns-clause-lines c =
    let names : Names = names_in c.args.names.now in
    let declared : List Line = declared_lines names c.args.types.now in
    let made : List Line = made_lines names.specs names.makers in
    on_ok c.put_declarations.result _ _
    (λ e. then_lines names (map ref_line names.refs) (made ++ (first_lines ++ declared)) _ _ _ c.in_ok-put_references.ensures
    (then_lines names made (first_lines ++ declared) _ _ _ c.in_ok-put_made.ensures
    (then_lines names first_lines declared _ _ _ (c.in_ok-put_first.ensures ∙ first_any names (said c.put_made.new.out)) e)))
    c.put_declarations.ensures.lines

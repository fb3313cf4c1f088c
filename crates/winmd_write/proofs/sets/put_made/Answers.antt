use Rattle.std.proofs.Common.{map}
use Rattle.winmd_lines.specs.Names.{Names}
use Rattle.winmd_sets.specs.Rows.{maker_line, spec_line}
use Rattle.kind_rows.proofs.LoopLaws.{on_ok, then_lines}
use Rattle.set_referred.specs.Referred.{names_in}
use Rattle.winmd_write.proofs.sets.put_made.Goals as goal

pub returns : goal.returns
returns c =
    let names : Names = names_in c.args.names.now in
    on_ok c.put_instances.result _ _ (λ e. then_lines names (map maker_line names.makers) (map spec_line names.specs) _ _ _ c.in_ok-put_constructors.ensures e) c.put_instances.ensures

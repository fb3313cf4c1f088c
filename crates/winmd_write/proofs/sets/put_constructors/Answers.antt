use Rattle.std.proofs.Common.{◌≡◌, ◌∙◌, List, map, ap}
use Rattle.kind_rows.specs.Makers as rows
use Rattle.winmd_lines.specs.Makers.{Maker}
use Rattle.winmd_lines.specs.Names.{Names}
use Rattle.winmd_sets.specs.Rows.{maker_line}
use Rattle.part_rows.specs.Grown.{with_lines}
use Rattle.kind_rows.specs.Said.{said}
use Rattle.kind_rows.proofs.LoopLaws.{on_ok}
use Rattle.set_referred.specs.Referred.{names_in}
use Rattle.winmd_write.proofs.sets.put_constructors.Goals as goal

pub returns : goal.returns
returns c =
    let names : Names = names_in c.args.names.now in
    let makers : map rows.maker_of c.deref.result.now ≡ names.makers = ap (map rows.maker_of) c.deref.ensures.value ∙ c.in_ok-makers.ensures ∙ c.makers.ensures ∙ ap (λ (n : Names). n.makers) c.names.ensures in
    on_ok c.put_makers.result _ _ (λ e. e ∙ ap (λ (ms : List Maker). with_lines names (map maker_line ms) (said c.args.out.now)) makers) c.put_makers.ensures

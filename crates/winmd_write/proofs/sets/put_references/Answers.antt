use Rattle.std.proofs.Common.{◌≡◌, ◌∙◌, ℕ, List, map, string_bytes, ap}
use Rattle.winmd_lines.specs.Names.{Names}
use Rattle.winmd_sets.specs.Rows.{ref_line}
use Rattle.part_rows.specs.Grown.{with_lines}
use Rattle.part_rows.specs.Nothing.{nothing}
use Rattle.kind_rows.specs.Said.{said}
use Rattle.kind_rows.proofs.LoopLaws.{on_ok}
use Rattle.set_referred.specs.Referred.{names_in}
use Rattle.winmd_write.proofs.ImageLaws.{refs_any}
use Rattle.winmd_write.proofs.sets.put_references.Goals as goal

pub returns : goal.returns
returns c =
    let names : Names = names_in c.args.names.now in
    let refs : map string_bytes c.refs.result.now ≡ names.refs = c.refs.ensures ∙ ap (λ (n : Names). n.refs) c.names.ensures in
    on_ok c.put_refs.result _ _
    (λ e. e ∙ ap (λ (ns : List (List ℕ)). with_lines nothing (map ref_line ns) (said c.args.out.now)) refs ∙ refs_any names names.refs (said c.args.out.now))
    c.put_refs.ensures

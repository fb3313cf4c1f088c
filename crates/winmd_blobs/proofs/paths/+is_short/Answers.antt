use Rattle.std.proofs.Common.{◌&&◌, ◌∙◌, ap, sym, List, take, arith}
use Rattle.std.proofs.lemmas.List.{take_all}
use Rattle.wr_base.specs.declared.type_use.TypeUse.{TypeUse}
use Rattle.winmd_blobs.proofs.PathLaws.{all_short, names_of_use, short_more, instance_short, and_assoc, none_yet}
use Rattle.winmd_blobs.proofs.paths.+is_short.Goals as goal

pub loop-argument-init : goal.loop-argument-init
loop-argument-init t c = none_yet c.is_short-short.result

pub loop-argument-preserved : goal.loop-argument-preserved
loop-argument-preserved t c =
    c.both-short.ensures ∙ ap (λ b. b && c.is_short-in-loop-argument.result) c.loop-argument.invariant
    ∙ and_assoc c.is_short-short.result (all_short names_of_use (take c.loop-argument.argument-index c.as_slice-argument-items.result.now)) c.is_short-in-loop-argument.result
    ∙ ap (λ b. c.is_short-short.result && b)
    (ap (λ b. all_short names_of_use (take c.loop-argument.argument-index c.as_slice-argument-items.result.now) && b) c.is_short-in-loop-argument.ensures
    ∙ sym (short_more names_of_use c.as_slice-argument-items.result.now c.loop-argument.argument-index c.argument-item.result c.loop-argument-test.true c.argument-item.is))

pub returns-after-loop-argument : goal.returns-after-loop-argument
returns-after-loop-argument t c =
    c.loop-argument.invariant
    ∙ ap (λ (us : List TypeUse). c.is_short-short.result && all_short names_of_use us) (take_all c.loop-argument.argument-index c.as_slice-argument-items.result.now (omega arith) ∙ c.as_slice-argument-items.ensures)
    ∙ ap (λ b. b && all_short names_of_use c.in-Inst.arguments) c.is_short-short.ensures
    ∙ sym (instance_short c.args.ty.now c.in-Inst.name c.in-Inst.arguments c.in-Inst.is)

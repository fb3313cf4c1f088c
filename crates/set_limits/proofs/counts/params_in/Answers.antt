use Rattle.std.proofs.Common.{◌+◌, ℕ, map, sum, ap, ◌∙◌, arith}
use Rattle.std.proofs.lemmas.List.{take_all}
use Rattle.set_limits.specs.Counts.{capped, params_of}
use Rattle.set_limits.proofs.CapLaws.{params_none, params_more}
use Rattle.set_limits.proofs.counts.params_in.Goals as goal

pub loop-signature-init : goal.loop-signature-init
loop-signature-init c = params_none params_of c.args.signatures.now

pub loop-signature-preserved : goal.loop-signature-preserved
loop-signature-preserved c =
    params_more params_of c.args.signatures.now c.loop-signature.signature-index c.signature-item.result c.loop-signature.total c.add-total.result (omega arith) c.signature-item.is c.loop-signature.invariant
    (c.add-total.ensures ∙ ap (λ (n : ℕ). capped (c.loop-signature.total + n)) c.params_of.ensures)

pub returns : goal.returns
returns c = c.loop-signature.invariant ∙ ap (λ xs. capped (sum (map params_of xs))) (take_all c.loop-signature.signature-index c.args.signatures.now (omega arith))

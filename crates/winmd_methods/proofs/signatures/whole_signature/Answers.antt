use Rattle.winmd_methods.proofs.signatures.whole_signature.Goals as goal

pub returns : goal.returns
returns c = rw c.in_ok-signature.ensures (rw c.offset.ensures at c.few_params.ensures)

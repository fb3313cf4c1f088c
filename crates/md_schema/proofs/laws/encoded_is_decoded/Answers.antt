use Rattle.md_schema.proofs.CodesLemmas.{encoded}
use Rattle.md_schema.proofs.laws.encoded_is_decoded.Goals as goal

pub returns : goal.returns
returns c = encoded

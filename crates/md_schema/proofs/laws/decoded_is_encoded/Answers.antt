use Rattle.md_schema.proofs.CodesLemmas.{decoded}
use Rattle.md_schema.proofs.laws.decoded_is_encoded.Goals as goal

pub returns : goal.returns
returns c = decoded

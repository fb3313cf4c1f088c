use Rattle.md_bytes.proofs.StandsLemmas.{stands_in}
use Rattle.md_bytes.proofs.laws.part_of_part.Goals as goal

pub returns : goal.returns
returns c = λ whole part inner i j s t. stands_in whole part inner i j s t

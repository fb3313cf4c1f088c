use Rattle.md_bytes.proofs.NumberLemmas.{read_number}
use Rattle.md_bytes.proofs.laws.number_stands.Goals as goal

pub returns : goal.returns
returns c = λ whole offset width n h s. read_number whole offset width n h s

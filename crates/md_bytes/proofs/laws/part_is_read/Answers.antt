use Rattle.std.proofs.Common.{length, refl}
use Rattle.md_bytes.proofs.StandsLemmas.{read_at}
use Rattle.md_bytes.proofs.laws.part_is_read.Goals as goal

pub returns : goal.returns
returns c = λ whole part offset s. read_at whole part offset (length part) refl s

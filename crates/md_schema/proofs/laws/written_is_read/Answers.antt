use Rattle.md_schema.proofs.TablesLemmas.{raw_again, written_begun, written_end}
use Rattle.md_schema.proofs.laws.written_is_read.Goals as goal

pub returns : goal.returns
returns c = record {
  sizes = λ sizes rows rest fit. (written_begun sizes rows rest fit).sizes_are;
  end = λ sizes rows rest fit. written_end sizes rows rest fit;
  rows = λ sizes rows rest table fit. raw_again sizes rows rest table fit;
}

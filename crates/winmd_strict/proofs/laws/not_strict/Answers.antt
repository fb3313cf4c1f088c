use Rattle.winmd_strict.proofs.NotStrict as wrong
use Rattle.winmd_strict.proofs.Sizes.{no_slack}
use Rattle.winmd_strict.proofs.laws.not_strict.Goals as goal

pub returns : goal.returns
returns c = record {
  empty = wrong.not_empty;
  slack = no_slack;
  heap = wrong.not_begun;
  index = wrong.one_index;
  further = wrong.not_further;
  flag = wrong.not_flag;
  unsorted = wrong.not_unsorted;
}

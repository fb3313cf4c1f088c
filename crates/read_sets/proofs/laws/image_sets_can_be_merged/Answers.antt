use Rattle.read_sets.proofs.SetFacts.{each_set, few_sets}
use Rattle.read_sets.proofs.laws.image_sets_can_be_merged.Goals as goal

pub returns : goal.returns
returns c = record { each = each_set; few = few_sets }

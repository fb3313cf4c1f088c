use Rattle.image_set.proofs.OutcomeLaws.{same_sets, none_stops, one_event}
use Rattle.image_set.proofs.laws.one_outcome.Goals as goal

pub returns : goal.returns
returns c = record {
  sets = λ files words one other. same_sets files 0 words one other;
  event = λ files words sets name event. none_stops files words sets name event;
  events = λ files words name place event other. one_event files words name place event other;
}

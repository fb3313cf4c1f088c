use Rattle.numbered.specs.Numbers.{number_in}
use Rattle.list_rules.proofs.NameLaws.{names_none, numbering_none}
use Rattle.list_rules.proofs.names.number_names.Goals as goal

pub loop-i-init : goal.loop-i-init
loop-i-init c = record {
  numbering = numbering_none (number_in c.no_numbers-numbers.result) c.no_numbers-numbers.result.count c.no_numbers-numbers.ensures.map;
  count = c.no_numbers-numbers.ensures.count;
  names = names_none c.args.types.now (number_in c.no_numbers-numbers.result) c.no_numbers-numbers.ensures.map;
}

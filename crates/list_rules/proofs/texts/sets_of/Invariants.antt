use Rattle.chains.specs.Groups.{graph_of}
use Rattle.numbered.specs.Numbers.{number_in, IsNumbering, Kept}
use Rattle.list_rules.specs.Texts.{AreSets}
use Rattle.list_rules.proofs.texts.sets_of.Given as goal

abbrev pub invariant-loop-i : goal.invariant-loop-i
invariant-loop-i l = record {
  numbering : IsNumbering (number_in l.numbers) l.numbers.count;
  kept : Kept (number_in l.initial.numbers) (number_in l.numbers);
  sets_ : AreSets (number_in l.numbers) l.types l.i (graph_of l.sets.items);
}

use Rattle.std.proofs.Common.{◌↔◌, IsTrue, ℕ, List}
use Rattle.std.specs.BTreeSet.{contains_text}
use Rattle.ranked.specs.First.{IsFirst, Below}
use Rattle.ranked.specs.Repeats.{StandsBefore, RepeatAt}
use Rattle.wr_rules.specs.Sites.{broken_at}
use Rattle.site_parts.proofs.repeats.first_repeat.Given as goal

abbrev pub invariant-loop-item : goal.invariant-loop-item
invariant-loop-item g l = record {
  first : IsFirst (Below l.item-index (RepeatAt (g.R.Repeats.key l.rule) (λ x. broken_at l.code (g.R.Repeats.spot l.rule x)) l.items)) l.first;
  told : (name : List ℕ) → IsTrue (contains_text l.met name) ↔ StandsBefore (g.R.Repeats.key l.rule) l.items l.item-index name;
}

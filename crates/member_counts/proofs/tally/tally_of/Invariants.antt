use Rattle.std.proofs.Common.{◌≡◌, ℕ, List, take, count_by}
use Rattle.member_counts.specs.Tallies.{count_at}
use Rattle.member_counts.proofs.tally.tally_of.Given as goal

abbrev pub invariant-loop-member : goal.invariant-loop-member
invariant-loop-member g l = (text : List ℕ) → count_at l.tally text ≡ count_by (λ m. g.C.Counted.has l.counted m text) (take l.member-index l.members)

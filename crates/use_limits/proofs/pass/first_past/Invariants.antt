use Rattle.std.proofs.Common.{◌≡◌, sum_by, take}
use Rattle.ranked.specs.First.{IsFirst, Below}
use Rattle.wr_rules.specs.Sites.{sites_of}
use Rattle.wr_rules.specs.Limits.{words_in, bytes_in, IsManyUses}
use Rattle.place_order.specs.Stands.{count_at}
use Rattle.set_limits.specs.Counts.{capped}
use Rattle.set_limits.specs.Pass.{AtOrder}
use Rattle.use_limits.proofs.pass.first_past.Given as goal

abbrev pub invariant-loop-i : goal.invariant-loop-i
invariant-loop-i l = record {
  words : l.totals.words ≡ capped (sum_by (count_at words_in (sites_of l.types.types l.types.places)) (take l.i l.stands));
  bytes : l.totals.bytes ≡ capped (sum_by (count_at bytes_in (sites_of l.types.types l.types.places)) (take l.i l.stands));
  first : IsFirst (Below l.i (AtOrder (sites_of l.types.types l.types.places) l.stands IsManyUses)) l.first;
}

use Rattle.std.proofs.Common.{◌≡◌, ◌<◌, ℕ, length}
use Rattle.accessor_clash.proofs.Bytewise.{Alike}
use Rattle.accessor_clash.proofs.joined.same_bytes.Given as goal

abbrev pub invariant-loop-index : goal.invariant-loop-index
invariant-loop-index l = record {
  as_long : length l.one ≡ length l.other;
  alike : (k : ℕ) → k < l.index → Alike l.one l.other k;
}

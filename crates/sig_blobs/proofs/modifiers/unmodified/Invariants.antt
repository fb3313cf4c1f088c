use Rattle.std.proofs.Common.{◌≡◌, ℕ, length, ◌≤◌}
use Rattle.sig_blobs.specs.Uses.{behind_modifiers}
use Rattle.sig_blobs.proofs.modifiers.unmodified.Given as goal

abbrev pub invariant-more : goal.invariant-more
invariant-more l = (k : ℕ) × (length l.rest ≤ k) × (behind_modifiers k l.rest ≡ behind_modifiers (length l.fn.bytes) l.fn.bytes)

abbrev pub decreases-more : goal.decreases-more
decreases-more l = length l.rest

-- Calls that fail by their number.
use Rattle.std.specs.Prelude.{◌≡◌, ◌↔◌, ◌+◌, ◌-◌, ◌^◌, ◌<◌, min, Result, IsErrOf, Contains}
use Rattle.wr_outside.specs.declared.failures.Failures.{Failures}

-- the next call has a number, and that number is listed
abbrev pub IsListed : Failures → Type 0
IsListed f = (f.calls + 1 < 2 ^ 64) × Contains f.listed.items (f.calls + 1)

-- The call fails exactly where its number is listed. It counts itself and the list stays, so no later call has
-- its number. The count of faults rises by one where it fails, as far as a u64 counts, and stays where it doesn't.
pub record FailsWhereListed {T E : Type 0} (failed : E) (old new : Failures) (result : Result T E) : Type 0 where
  pub fails : IsErrOf result failed ↔ IsListed old
  pub calls : new.calls ≡ min (old.calls + 1) (2 ^ 64 - 1)
  pub listed : new.listed ≡ old.listed
  pub rises : IsErrOf result failed → new.faults ≡ min (old.faults + 1) (2 ^ 64 - 1)
  pub stays : ¬ IsErrOf result failed → new.faults ≡ old.faults

-- The store and the sinks as the tool finds and leaves them.
use Rattle.std.specs.Prelude.{◌≡◌, ℕ, ◌≤◌, Option, List, IfSome}
use Rattle.wr_outside.specs.Cause.{Rose}
use Rattle.wr_outside.specs.Files.{Files}
use Rattle.source_set.specs.Reads.{MayHold}

-- what the store and the sinks tell at one moment, and their counts of faults
pub record Outside : Type 0 where
  pub held : Option Files
  pub out : Option (List ℕ)
  pub err : Option (List ℕ)
  pub store_faults : ℕ
  pub out_faults : ℕ
  pub err_faults : ℕ

-- no count of faults falls
pub record CountsRise (before after : Outside) : Type 0 where
  pub store : before.store_faults ≤ after.store_faults
  pub out : before.out_faults ≤ after.out_faults
  pub err : before.err_faults ≤ after.err_faults

-- no count of faults rose
pub record NoneRose (before after : Outside) : Type 0 where
  pub store : ¬ (Rose before.store_faults after.store_faults)
  pub out : ¬ (Rose before.out_faults after.out_faults)
  pub err : ¬ (Rose before.err_faults after.err_faults)

-- it holds of some files that the store may hold
pub record ForSome (held : Option Files) (Holds : Files → Type 0) : Type 0 where
  pub files : Files
  pub may_hold : MayHold held files
  pub holds : Holds files

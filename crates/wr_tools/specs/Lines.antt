-- The line that a call puts on err.
use Rattle.std.specs.Prelude.{◌≡◌, ◌⊎◌, ℕ, ◌≤◌, true, false, List, ◌++◌, take, codes, Contains}
use Rattle.wr_outside.specs.Cause.{Rose}
use Rattle.wr_outside.specs.Files.{with_put}
use Rattle.wr_tools.specs.Outside.{Outside}
use Rattle.wr_tools.specs.Reply.{Reply, is_refusal}
use Rattle.wr_tools.specs.Command.{Command, Owes, Awaits}

abbrev pub read_fault : List ℕ
read_fault = codes ": ReadFault\n"

abbrev pub write_fault : List ℕ
write_fault = codes ": WriteFault\n"

-- a line that a reply other than 0 puts on err
pub record ReplyLine (command : Command) (before : Outside) (line : List ℕ) : Type 0 where
  pub reply : Reply
  pub owed : Owes command before.held reply
  pub not_done : 1 ≤ reply.status
  pub is : line ≡ reply.err

-- the store failed in this call, and the line names an input before which nothing is refused
pub record ReadFaultLine (command : Command) (before after : Outside) (line : List ℕ) : Type 0 where
  pub rose : Rose before.store_faults after.store_faults
  pub name : List ℕ
  pub awaited : Awaits command before.held name
  pub is : line ≡ name ++ read_fault

-- the store failed in this call, nothing is refused, and the line names a file that the command writes
pub record WriteFaultLine (command : Command) (before after : Outside) (line : List ℕ) : Type 0 where
  pub rose : Rose before.store_faults after.store_faults
  pub reply : Reply
  pub owed : Owes command before.held reply
  pub unrefused : is_refusal reply.status ≡ false
  pub name : List ℕ
  pub written : Contains command.writes name
  pub is : line ≡ name ++ write_fault

-- out failed in this call, nothing is refused, and the command is one that prints
pub record OutFaultLine (command : Command) (before after : Outside) (line : List ℕ) : Type 0 where
  pub rose : Rose before.out_faults after.out_faults
  pub reply : Reply
  pub owed : Owes command before.held reply
  pub unrefused : is_refusal reply.status ≡ false
  pub prints : command.prints ≡ true
  pub is : line ≡ codes "out" ++ write_fault

-- the line of this call
abbrev pub IsLine : Command → Outside → Outside → List ℕ → Type 0
IsLine command before after line =
    ReplyLine command before line
    ⊎ ReadFaultLine command before after line
    ⊎ WriteFaultLine command before after line
    ⊎ OutFaultLine command before after line

-- err has a prefix of the line of this call
pub record HasPart (command : Command) (before after : Outside) : Type 0 where
  pub line : List ℕ
  pub owed : IsLine command before after line
  pub n : ℕ
  pub is : after.err ≡ with_put before.err (take n line)

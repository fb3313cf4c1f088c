-- What a call of the tool answers and leaves, whatever fails.
use Rattle.std.specs.Prelude.{◌≡◌, ◌⊎◌, ℕ, ◌≤◌, true, false, List, take, Some}
use Rattle.wr_outside.specs.Cause.{Rose}
use Rattle.wr_outside.specs.Files.{Files, with_put}
use Rattle.wr_tools.specs.Outside.{Outside, CountsRise, NoneRose}
use Rattle.wr_tools.specs.Reply.{Reply, Shows, StopsAt, is_fault, is_refusal}
use Rattle.wr_tools.specs.Command.{Command, Owes}
use Rattle.wr_tools.specs.Lines.{ReadFaultLine, WriteFaultLine, OutFaultLine, HasPart}

-- a reply that is owed is what the outside shows
pub record Replied (command : Command) (before after : Outside) (status : ℕ) : Type 0 where
  pub reply : Reply
  pub owed : Owes command before.held reply
  pub shows : Shows reply before after status

-- err has the line of a read fault
pub record ReadFailed (command : Command) (before after : Outside) : Type 0 where
  pub line : List ℕ
  pub cause : ReadFaultLine command before after line
  pub is : after.err ≡ with_put before.err line

-- err has the line of a write fault, of a file or of out
pub record WriteFailed (command : Command) (before after : Outside) : Type 0 where
  pub line : List ℕ
  pub cause : WriteFaultLine command before after line ⊎ OutFaultLine command before after line
  pub is : after.err ≡ with_put before.err line

-- err failed in this call, and has a prefix of its line
pub record ErrFailed (command : Command) (before after : Outside) : Type 0 where
  pub rose : Rose before.err_faults after.err_faults
  pub part : HasPart command before after

-- nothing is refused, and the files of the reply were written up to a place
pub record WrittenInPart (command : Command) (before after : Outside) : Type 0 where
  pub reply : Reply
  pub owed : Owes command before.held reply
  pub unrefused : is_refusal reply.status ≡ false
  pub stops : StopsAt before.held after.held reply.written

-- nothing is refused, and a prefix of what the reply prints was put on out
pub record PrintedInPart (command : Command) (before after : Outside) : Type 0 where
  pub reply : Reply
  pub owed : Owes command before.held reply
  pub unrefused : is_refusal reply.status ≡ false
  pub n : ℕ
  pub is : after.out ≡ with_put before.out (take n reply.out)

pub record Answers (command : Command) (before after : Outside) (status : ℕ) : Type 0 where
  -- Without a fault the status, the files and the sinks are as a reply says that the command owes.
  pub reply : is_fault status ≡ false → Replied command before after status
  -- 2 comes only where the words don't match.
  pub unmatched : status ≡ 2 → command.matched ≡ false
  -- Where the words don't match, the answer is 2, or 5 by a failing err, or 6.
  pub matched : command.matched ≡ false → (status ≡ 2) ⊎ ((status ≡ 5) × ErrFailed command before after) ⊎ (status ≡ 6)
  -- Where the command accepts what the store holds, and no call of the outside failed, the answer is 0, or 6.
  pub accepted : (files : Files) → before.held ≡ Some files → command.accepts files → NoneRose before after → (status ≡ 0) ⊎ (status ≡ 6)
  -- On 1 to 4 the store is as before.
  pub unwritten : 1 ≤ status → status ≤ 4 → after.held ≡ before.held
  -- 4 comes only where a read failed, and err has its line.
  pub read_fault : status ≡ 4 → ReadFailed command before after
  -- 5 comes only where a write failed and err has its line, or where err failed and has a part of its line.
  pub write_fault : status ≡ 5 → WriteFailed command before after ⊎ ErrFailed command before after
  -- On 6 err is as before, or has a part of its line.
  pub memory : status ≡ 6 → (after.err ≡ before.err) ⊎ HasPart command before after
  -- After a fault the store is as before, or holds a part of what the reply writes.
  pub partial : is_fault status ≡ true → (after.held ≡ before.held) ⊎ WrittenInPart command before after
  -- After a fault out is as before, or has a part of what the reply prints.
  pub printed : is_fault status ≡ true → (after.out ≡ before.out) ⊎ PrintedInPart command before after
  -- A command that prints nothing leaves out as it was.
  pub silent : command.prints ≡ false → after.out ≡ before.out
  -- No count of faults falls.
  pub counts : CountsRise before after
  -- There is no other status.
  pub known : status ≤ 6

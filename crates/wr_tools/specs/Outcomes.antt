-- What a command comes to before anything is written or said.
use Rattle.std.specs.Prelude.{◌≡◌, ◌≢◌, ◌≤◌, ◌++◌, ℕ, Option, List, string_bytes}
use Rattle.winrt_words.specs.Words.{Named}
use Rattle.wr_outside.specs.Files.{Files}
use Rattle.wr_tools.specs.declared.outcome.Outcome.{Outcome}
use Rattle.wr_tools.specs.declared.outcome.Outcome.TheVariants.{Refused, ReadFault, Image}
use Rattle.wr_tools.specs.Command.{Owes, Awaits}
use Rattle.wr_tools.specs.Lines.{read_fault}
use Rattle.wr_tools.specs.Reply.{refusal, done}
use Rattle.wr_tools.specs.Said.{status_said, text_said}
use Rattle.wr_tools.specs.Words.{command_for, out_of}

-- a refusal of content or of a file
pub record RefusalOwed (command : Named) (held : Option Files) (status : ℕ) (line : List ℕ) : Type 0 where
  pub low : 1 ≤ status
  pub high : status ≤ 3
  pub matched : status ≢ 2
  pub owed : Owes (command_for command) held (refusal status line)

-- the line of a read that failed before anything is refused
pub record ReadFaultOwed (command : Named) (held : Option Files) (line : List ℕ) : Type 0 where
  pub name : List ℕ
  pub awaited : Awaits (command_for command) held name
  pub is : line ≡ name ++ read_fault

abbrev pub OutcomeIs : Named → Option Files → Outcome → Type 0
OutcomeIs command held (Refused said name) = RefusalOwed command held (status_said said) (string_bytes name ++ text_said said)
OutcomeIs command held (ReadFault name) = ReadFaultOwed command held (string_bytes name ++ read_fault)
OutcomeIs command held (Image bytes) = Owes (command_for command) held (done (out_of command) bytes.items)

-- a read failed
abbrev pub IsReadFault : Outcome → Type 0
IsReadFault (Refused said name) = ⊥
IsReadFault (ReadFault name) = Unit {0}
IsReadFault (Image bytes) = ⊥

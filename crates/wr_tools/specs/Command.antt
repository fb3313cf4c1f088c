-- A command of the tool, by what its answers may be.
use Rattle.std.specs.Prelude.{ℕ, Bool, Option, List}
use Rattle.wr_outside.specs.Files.{Files}
use Rattle.wr_tools.specs.Reply.{Reply}

-- `matched`: the words are those of a command.
-- `replies`: what it replies where this is what the store tells and nothing fails.
-- `awaits`: the inputs before which nothing is refused where this is what the store tells.
-- `accepts`: nothing is refused where the store holds these files.
-- `writes`: the names of the files that it writes.
-- `prints`: it may put something on out.
pub record Command : Type 1 where
  pub matched : Bool
  pub replies : Option Files → Reply → Type 0
  pub awaits : Option Files → List ℕ → Type 0
  pub accepts : Files → Type 0
  pub writes : List (List ℕ)
  pub prints : Bool

-- the reply is one that the command owes, where this is what the store tells
abbrev pub Owes : Command → Option Files → Reply → Type 0
Owes command held reply = command.replies held reply

-- the name is that of an input before which nothing is refused
abbrev pub Awaits : Command → Option Files → List ℕ → Type 0
Awaits command held name = command.awaits held name

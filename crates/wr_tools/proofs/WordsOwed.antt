-- What is owed for words that don't match.
use Rattle.std.proofs.Common.{Option, refl}
use Rattle.wr_outside.specs.Files.{Files}
use Rattle.wr_tools.specs.Reply.{refusal}
use Rattle.wr_tools.specs.Command.{Owes}
use Rattle.wr_tools.specs.Midl.{unmatched, unmatched_command}
use Rattle.wr_tools.proofs.EndLemmas.{IsSettled}

pub unmatched_owed : (held : Option Files) → Owes unmatched_command held (refusal 2 unmatched)
unmatched_owed held = refl

-- words that don't match are never accepted
pub unmatched_settled : IsSettled unmatched_command
unmatched_settled = λ files reply ok is. absurd ok

-- What the tool answers for the words of a process's call.
use Rattle.std.specs.Prelude.{◌≡◌, ℕ, [], None, Result, Ok, Err, Vec, String, map, string_bytes}
use Rattle.std.specs.declared.alloc.Global.{Global}
use Rattle.winrt_run.specs.declared.words.WordsRefusal.{WordsRefusal}
use Rattle.winrt_run.specs.declared.words.WordsRefusal.TheVariants.{NotText, Memory}
use Rattle.wr_tools.specs.Answers.{Answers}
use Rattle.wr_tools.specs.Outside.{Outside}
use Rattle.wr_tools.specs.Words.{command_of}

-- The words that were read are answered. Words that aren't text match no command, as no words do; and where there wasn't
-- memory for the words, the status is 6, and nothing is read, written or said.
abbrev pub Answered : Result (Vec (String Global) Global) WordsRefusal → Outside → Outside → ℕ → Type 0
Answered (Ok words) before after status = Answers (command_of (map string_bytes words.items)) before after status
Answered (Err NotText) before after status = Answers (command_of []) before after status
Answered (Err Memory) before after status = (status ≡ 6) × (after ≡ before)

-- nothing is told, and nothing has failed yet
abbrev pub untold : Outside
untold = record { held = None; out = None; err = None; store_faults = 0; out_faults = 0; err_faults = 0 }

-- the status is what some words of the process are answered, from an outside that tells nothing
pub record Ran (status : ℕ) : Type 0 where
  pub words : Result (Vec (String Global) Global) WordsRefusal
  pub after : Outside
  pub answered : Answered words untold after status

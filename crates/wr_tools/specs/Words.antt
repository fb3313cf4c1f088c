-- The command that the words of a call name.
use Rattle.std.specs.Prelude.{ℕ, Option, None, Some, List}
use Rattle.winrt_words.specs.Words.{Named, midl, mdmerge, named_in}
use Rattle.wr_tools.specs.Command.{Command}
use Rattle.wr_tools.specs.Midl.{midl_command, unmatched_command}
use Rattle.wr_tools.specs.Merge.{merge_command}

-- what a command is, by its name and what its words give it
abbrev pub command_for : Named → Command
command_for (midl names) = midl_command names.0 names.1
command_for (mdmerge names) = merge_command names.0 names.1

-- the command that the words name, if they name one
abbrev pub named : Option Named → Command
named None = unmatched_command
named (Some command) = command_for command

-- the file that it writes
abbrev pub out_of : Named → List ℕ
out_of (midl names) = names.0
out_of (mdmerge names) = names.0

-- the command that the words name
abbrev pub command_of : List (List ℕ) → Command
command_of words = named (named_in words)

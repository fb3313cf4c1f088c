use Rattle.std.proofs.Common.{◌≡◌, map, take}
use Rattle.midl_words.specs.Words.{terminal_of}
use Rattle.midl_words.proofs.words.terminals_of.Given as goal

abbrev pub invariant-loop-token : goal.invariant-loop-token
invariant-loop-token l = l.terminals.items ≡ map terminal_of (take l.token-index l.tokens)

use Rattle.std.proofs.Common.{◌≡◌, map, take, string_bytes}
use Rattle.source_set.specs.Found.{once, first_names}
use Rattle.source_set.proofs.set.first_names.Given as goal

abbrev pub invariant-loop-word : goal.invariant-loop-word
invariant-loop-word l = l.names ≡ first_names (once (map string_bytes (take l.word-index l.words)))

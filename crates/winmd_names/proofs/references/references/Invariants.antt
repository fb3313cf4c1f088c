use Rattle.std.proofs.Common.{◌≡◌, ◌++◌, map, string_bytes}
use Rattle.winmd_names.proofs.references.references.Given as goal

abbrev pub invariant-loop-name : goal.invariant-loop-name
invariant-loop-name l = map string_bytes l.refs.items ++ map string_bytes l.name-iterator ≡ map string_bytes l.used.keys

use Rattle.std.proofs.Common.{◌≡◌, ◌++◌, take}
use Rattle.std.specs.List.{flat_map}
use Rattle.sig_blobs.specs.Attributes.{argument_bytes}
use Rattle.sig_blobs.proofs.put_arguments.put_arguments.Given as goal

abbrev pub invariant-loop-argument : goal.invariant-loop-argument
invariant-loop-argument l = l.into.items ≡ l.initial.into.items ++ flat_map argument_bytes (take l.argument-index l.args)

use Rattle.std.proofs.Common.{◌≡◌, ◌++◌, take, map}
use Rattle.std.specs.List.{flat_map}
use Rattle.sig_blobs.specs.Numbers.{number_in}
use Rattle.sig_blobs.specs.Writing.{use_bytes}
use Rattle.wr_base.specs.Trees.{tree_of}
use Rattle.sig_blobs.proofs.put_uses.+put_use.Given as goal

abbrev pub invariant-loop-argument : goal.invariant-loop-argument
invariant-loop-argument l = l.into.items ≡ l.initial.into.items ++ flat_map (use_bytes (number_in l.tokens)) (map tree_of (take l.argument-index l.list))

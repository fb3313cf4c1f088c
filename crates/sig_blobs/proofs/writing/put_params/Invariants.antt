use Rattle.std.proofs.Common.{◌≡◌, ◌++◌, take, map}
use Rattle.std.specs.List.{flat_map}
use Rattle.sig_blobs.specs.Numbers.{number_in}
use Rattle.sig_blobs.specs.Writing.{param_bytes}
use Rattle.wr_base.specs.Trees.{param_tree}
use Rattle.sig_blobs.proofs.writing.put_params.Given as goal

abbrev pub invariant-loop-param : goal.invariant-loop-param
invariant-loop-param l = l.into.items ≡ l.initial.into.items ++ flat_map (param_bytes (number_in l.tokens)) (map param_tree (take l.param-index l.params))

use Rattle.std.proofs.Common.{◌≡◌, take}
use Rattle.winmd_blobs.proofs.PathLaws.{all_short, names_of_param}
use Rattle.winmd_blobs.proofs.paths.are_short.Given as goal

abbrev pub invariant-loop-param : goal.invariant-loop-param
invariant-loop-param l = l.short ≡ all_short names_of_param (take l.param-index l.params)

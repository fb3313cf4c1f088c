use Rattle.std.proofs.Common.{◌≡◌, ◌&&◌, take}
use Rattle.winmd_blobs.proofs.PathLaws.{all_short, names_of_use}
use Rattle.winmd_blobs.proofs.paths.+is_short.Given as goal

abbrev pub invariant-loop-argument : goal.invariant-loop-argument
invariant-loop-argument l = l.short ≡ (l.initial.short && all_short names_of_use (take l.argument-index l.argument-items))

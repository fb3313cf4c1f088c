use Rattle.std.proofs.Common.{◌≡◌, take}
use Rattle.md_merge.specs.Unions.{all_of}
use Rattle.md_merge.proofs.gathered.all_of.Given as goal

abbrev pub invariant-loop-types : goal.invariant-loop-types
invariant-loop-types l = l.all.items ≡ all_of (take l.types-index l.sets)

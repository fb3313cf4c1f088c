use Rattle.std.proofs.Common.{◌≡◌, ◌++◌, take}
use Rattle.std.specs.List.{flat_map}
use Rattle.wr_base.specs.declared.type_use.TypeUse.{TypeUse}
use Rattle.wr_base.specs.Trees.{tree_of}
use Rattle.winmd_uses.specs.Keys.{key_of}
use Rattle.winmd_uses.proofs.keys.+put_key.Given as goal

abbrev pub invariant-loop-argument : goal.invariant-loop-argument
invariant-loop-argument l = l.into.items ≡ l.initial.into.items ++ flat_map (λ (u : TypeUse). key_of (tree_of u)) (take l.argument-index l.argument-items)

use Rattle.std.proofs.Common.{◌≡◌, ◌++◌, ◌∷◌, map, take}
use Rattle.std.specs.List.{flat_map}
use Rattle.midl_tree.specs.Views.{type_view}
use Rattle.midl_names.specs.Uses.{uses_in}
use Rattle.midl_names.specs.Views.{types_of}
use Rattle.midl_names.proofs.uses.+push_uses.Given as goal

abbrev pub invariant-loop-argument : goal.invariant-loop-argument
invariant-loop-argument l = types_of l.into.items ≡ types_of l.fn.into.items ++ (type_view l.fn.node ∷ flat_map uses_in (map type_view (take l.argument-index l.argument-items)))

use Rattle.std.proofs.Common.{◌≡◌, ◌++◌, map, take}
use Rattle.midl_tree.specs.Views.{param_view}
use Rattle.midl_names.specs.Uses.{param_uses}
use Rattle.midl_names.specs.Views.{types_of}
use Rattle.midl_names.proofs.uses.push_params.Given as goal

abbrev pub invariant-loop-param : goal.invariant-loop-param
invariant-loop-param l = types_of l.into.items ≡ types_of l.fn.into.items ++ param_uses (map param_view (take l.param-index l.params))

use Rattle.std.proofs.Common.{◌≡◌, ◌++◌, take}
use Rattle.midl_names.specs.Views.{idents_of}
use Rattle.midl_names.proofs.parts.push_names.Given as goal

abbrev pub invariant-loop-name : goal.invariant-loop-name
invariant-loop-name l = idents_of l.into.items ≡ idents_of l.fn.into.items ++ take l.name-index l.names

use Rattle.std.proofs.Common.{◌≡◌, ◌++◌, take}
use Rattle.midl_names.specs.Items.{texts}
use Rattle.midl_names.specs.Views.{parts_of}
use Rattle.midl_names.proofs.items.parts_within.Given as goal

abbrev pub invariant-loop-part : goal.invariant-loop-part
invariant-loop-part l = parts_of l.space.items ≡ parts_of l.fn.around ++ texts (take l.part-index l.name)

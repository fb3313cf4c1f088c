use Rattle.std.proofs.Common.{◌≡◌, take}
use Rattle.midl_names.specs.Views.{parts_of}
use Rattle.midl_names.proofs.items.parts_around.Given as goal

abbrev pub invariant-loop-part : goal.invariant-loop-part
invariant-loop-part l = parts_of l.space.items ≡ parts_of (take l.part-index l.around)

use Rattle.std.proofs.Common.{◌≡◌, drop}
use Rattle.midl_names.specs.Declares.{id_of}
use Rattle.midl_names.specs.Views.{attributes_of}
use Rattle.midl_names.proofs.marks.id_of.Given as goal

abbrev pub invariant-loop-attribute : goal.invariant-loop-attribute
invariant-loop-attribute l = id_of (attributes_of (drop l.attribute-index l.attributes)) ≡ id_of (attributes_of l.attributes)

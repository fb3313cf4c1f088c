use Rattle.std.proofs.Common.{◌≡◌, drop}
use Rattle.midl_names.specs.Declares.{version_of}
use Rattle.midl_names.specs.Views.{attributes_of}
use Rattle.midl_names.proofs.marks.version_of.Given as goal

abbrev pub invariant-loop-attribute : goal.invariant-loop-attribute
invariant-loop-attribute l = version_of (attributes_of (drop l.attribute-index l.attributes)) ≡ version_of (attributes_of l.attributes)

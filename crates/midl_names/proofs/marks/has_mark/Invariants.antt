use Rattle.std.proofs.Common.{◌≡◌, drop}
use Rattle.std.specs.List.{list_any}
use Rattle.midl_names.specs.Declares.{is_mark}
use Rattle.midl_names.specs.Views.{attributes_of}
use Rattle.midl_names.proofs.marks.has_mark.Given as goal

abbrev pub invariant-loop-attribute : goal.invariant-loop-attribute
invariant-loop-attribute l = list_any is_mark (attributes_of (drop l.attribute-index l.attributes)) ≡ list_any is_mark (attributes_of l.attributes)

use Rattle.std.proofs.Common.{◌≡◌, ◌++◌, map, take}
use Rattle.std.specs.List.{flat_map}
use Rattle.midl_tree.specs.Views.{fields_view}
use Rattle.midl_names.specs.Views.{idents_of}
use Rattle.midl_names.proofs.parts.push_fields.Given as goal

abbrev pub invariant-loop-field : goal.invariant-loop-field
invariant-loop-field l = idents_of l.into.items ≡ idents_of l.fn.into.items ++ flat_map (λ f. f.names) (map fields_view (take l.field-index l.fields))

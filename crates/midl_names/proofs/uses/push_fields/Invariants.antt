use Rattle.std.proofs.Common.{◌≡◌, ◌++◌, map, take}
use Rattle.std.specs.List.{flat_map}
use Rattle.midl_tree.specs.Views.{fields_view}
use Rattle.midl_names.specs.Uses.{uses_in}
use Rattle.midl_names.specs.Views.{types_of}
use Rattle.midl_names.proofs.uses.push_fields.Given as goal

abbrev pub invariant-loop-field : goal.invariant-loop-field
invariant-loop-field l = types_of l.into.items ≡ types_of l.fn.into.items ++ flat_map (λ f. uses_in f.kind) (map fields_view (take l.field-index l.fields))

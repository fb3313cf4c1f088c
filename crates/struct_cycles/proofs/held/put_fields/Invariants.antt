use Rattle.std.proofs.Common.{◌≡◌, ◌++◌, take}
use Rattle.std.specs.List.{flat_map}
use Rattle.struct_cycles.specs.Places.{step_of}
use Rattle.struct_cycles.proofs.held.put_fields.Given as goal

abbrev pub invariant-loop-field : goal.invariant-loop-field
invariant-loop-field l = l.list.items ≡ l.initial.list.items ++ flat_map (step_of l.types) (take l.field-index l.fields)

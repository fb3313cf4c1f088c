use Rattle.std.specs.Prelude.{◌≡◌, drop, map}
use Rattle.winmd_sets.specs.Members.{struct_field}
use Rattle.wr_base.specs.Trees.{field_tree}
use Rattle.part_rows.specs.Grown.{with_lines}
use Rattle.kind_rows.specs.Said.{said}
use Rattle.kind_rows.proofs.structs.put_fields.Given as goal

abbrev pub invariant-loop-field : goal.invariant-loop-field
invariant-loop-field g l =
    with_lines (g.N.Referred.names l.names) (map struct_field (map field_tree (drop l.field-index l.fields))) (said l.out)
    ≡ with_lines (g.N.Referred.names l.names) (map struct_field (map field_tree l.fields)) (said l.fn.out)

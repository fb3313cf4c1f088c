use Rattle.std.proofs.Common.{◌≡◌, map, take}
use Rattle.md_schema.specs.declared.table.Table.TheVariants as tables
use Rattle.winmd_sets.specs.Methods.{invokes}
use Rattle.winmd_cells.specs.Seen.{seen}
use Rattle.winmd_methods.specs.Seen.{method_seen}
use Rattle.winmd_methods.proofs.delegates.invokes.Given as goal

abbrev pub invariant-loop-method : goal.invariant-loop-method
invariant-loop-method l = map (seen l.source.image tables.MethodDef) l.rows.items ≡ invokes (map (method_seen l.source.image) (take l.method-index l.methods))

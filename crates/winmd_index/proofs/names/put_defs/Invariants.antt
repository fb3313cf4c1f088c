use Rattle.std.proofs.Common.{◌≡◌, map}
use Rattle.md_schema.specs.declared.table.Table.TheVariants as tables
use Rattle.md_schema.specs.Tables.{upto}
use Rattle.winmd_index.specs.Names.{name_seen}
use Rattle.winmd_index.proofs.names.put_defs.Given as goal

abbrev pub invariant-loop-i : goal.invariant-loop-i
invariant-loop-i l = record {
  defs : l.names.defs ≡ map (name_seen l.image tables.TypeDef) (upto 1 l.i);
  refs : l.names.refs ≡ l.initial.names.refs;
}

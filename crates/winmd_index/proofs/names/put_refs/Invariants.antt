use Rattle.std.proofs.Common.{◌≡◌, map}
use Rattle.md_schema.specs.declared.table.Table.TheVariants as tables
use Rattle.md_schema.specs.Tables.{upto}
use Rattle.winmd_index.specs.Names.{name_seen}
use Rattle.winmd_index.proofs.names.put_refs.Given as goal

abbrev pub invariant-loop-i : goal.invariant-loop-i
invariant-loop-i l = record {
  refs : l.names.refs ≡ map (name_seen l.image tables.TypeRef) (upto 1 l.i);
  defs : l.names.defs ≡ l.initial.names.defs;
}

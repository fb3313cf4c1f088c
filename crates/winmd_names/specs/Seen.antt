-- The names of a set, as definitions see them.
use Rattle.std.specs.Prelude.{map, string_bytes}
use Rattle.wr_base.specs.Trees.{tree_of}
use Rattle.winmd_lines.specs.Names.{Names}
use Rattle.winmd_uses.specs.Makers.{maker_of}
use Rattle.winmd_names.specs.declared.set_names.SetNames.{SetNames}

abbrev pub seen : SetNames → Names
seen names = record {
  types = names.types.types.items;
  refs = map string_bytes names.types.refs.items;
  specs = map tree_of names.instances.list.items;
  makers = map maker_of names.makers.items;
}

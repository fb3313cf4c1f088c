use Rattle.std.proofs.Common.{◌≡◌, map, take}
use Rattle.std.specs.HashMap.{get_by_text}
use Rattle.placed_items.specs.Named.{AreNamed}
use Rattle.midl_names.specs.Declares.{placed_of}
use Rattle.midl_names.specs.Views.{item_of}
use Rattle.midl_names.proofs.written.placed.Given as goal

abbrev pub invariant-loop-item : goal.invariant-loop-item
invariant-loop-item l = record {
  so_far : l.placed.items ≡ map (placed_of (get_by_text l.fn.index.sorts)) (map item_of (take l.item-index l.items));
  named : AreNamed l.placed.items;
}

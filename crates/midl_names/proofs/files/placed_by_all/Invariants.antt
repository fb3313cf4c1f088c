use Rattle.std.proofs.Common.{◌≡◌, ◌++◌, map}
use Rattle.std.specs.HashMap.{get_by_text}
use Rattle.std.specs.Vec.Iter.{into_iter_items}
use Rattle.placed_items.specs.Named.{AreNamed, ArePathed}
use Rattle.midl_names.specs.Declares.{placed_of}
use Rattle.midl_names.specs.Items.{items_of}
use Rattle.midl_names.specs.Views.{sources_of}
use Rattle.midl_names.proofs.files.placed_by_all.Given as goal

abbrev pub invariant-loop-file : goal.invariant-loop-file
invariant-loop-file l = record {
  so_far : l.placed.items ++ map (placed_of (get_by_text l.fn.index.sorts)) (items_of (sources_of (into_iter_items l.file-iterator))) ≡ map (placed_of (get_by_text l.fn.index.sorts)) (items_of (sources_of l.fn.files.items));
  named : AreNamed l.placed.items;
  pathed : ArePathed l.placed.items;
}

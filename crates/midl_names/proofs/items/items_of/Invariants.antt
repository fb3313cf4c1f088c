use Rattle.std.proofs.Common.{◌≡◌, take, map}
use Rattle.midl_names.specs.Items.{items_of}
use Rattle.midl_names.specs.Views.{item_of, sources_of}
use Rattle.midl_names.proofs.items.items_of.Given as goal

abbrev pub invariant-loop-file : goal.invariant-loop-file
invariant-loop-file l = map item_of l.items.items ≡ items_of (sources_of (take l.file-index l.files))

use Rattle.std.proofs.Common.{◌≡◌, ◌≤◌, ◌++◌, length, take, string_bytes}
use Rattle.std.specs.HashMap.{get_by_text}
use Rattle.midl_names.specs.Items.{prefix}
use Rattle.midl_names.specs.Lookup.{look_from, look_up}
use Rattle.midl_names.specs.Views.{parts_of}
use Rattle.midl_names.proofs.lookup.look_up.Given as goal

abbrev pub invariant-more : goal.invariant-more
invariant-more l = record {
  short : l.left ≤ length l.space;
  text : string_bytes l.text ≡ prefix (parts_of (take l.left l.space)) ++ l.path;
  rest : look_from (get_by_text l.index.sorts) (parts_of l.space) l.path l.left ≡ look_up (get_by_text l.index.sorts) (parts_of l.space) l.path;
}

abbrev pub decreases-more : goal.decreases-more
decreases-more l = l.left

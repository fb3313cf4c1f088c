use Rattle.std.proofs.Common.{◌≡◌, ◌≤◌, ◌+◌, ◌-◌, ◌++◌, length, take, string_bytes}
use Rattle.midl_names.specs.Items.{prefix}
use Rattle.midl_names.specs.Views.{parts_of}
use Rattle.midl_names.proofs.lookup.push_parts.Given as goal

abbrev pub invariant-more : goal.invariant-more
invariant-more l = record {
  short : l.left ≤ length l.space;
  value : string_bytes l.text ≡ string_bytes l.fn.text ++ prefix (parts_of (take l.left l.space));
  room : l.room + length (prefix (parts_of (take l.left l.space))) ≡ l.fn.room;
}

abbrev pub decreases-more : goal.decreases-more
decreases-more l = length l.space - l.left

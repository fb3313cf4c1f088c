use Rattle.std.proofs.Common.{◌≡◌, ◌++◌, map, take}
use Rattle.std.specs.List.{flat_map}
use Rattle.midl_tree.specs.Views.{class_member_view}
use Rattle.midl_names.specs.Declares.{members_on, names_of}
use Rattle.midl_names.specs.Views.{idents_of}
use Rattle.midl_names.proofs.parts.push_side.Given as goal

abbrev pub invariant-loop-member : goal.invariant-loop-member
invariant-loop-member l = idents_of l.into.items ≡ idents_of l.fn.into.items ++ flat_map names_of (flat_map (members_on l.fn.side) (map class_member_view (take l.member-index l.members)))

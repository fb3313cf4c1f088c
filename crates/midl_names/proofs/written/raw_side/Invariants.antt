use Rattle.std.proofs.Common.{◌≡◌, map, take}
use Rattle.std.specs.HashMap.{get_by_text}
use Rattle.std.specs.List.{All, flat_map}
use Rattle.midl_tree.specs.Views.{class_member_view}
use Rattle.midl_names.specs.Declares.{members_on}
use Rattle.midl_names.specs.Members.{members_of}
use Rattle.midl_names.specs.Views.{parts_of}
use Rattle.midl_names.specs.RawMembers.{IsRawMember}
use Rattle.midl_names.proofs.written.raw_side.Given as goal

abbrev pub invariant-loop-node : goal.invariant-loop-node
invariant-loop-node l = record {
  so_far : l.members.items ≡ flat_map (members_of (get_by_text l.fn.scope.index.now.sorts) (parts_of l.fn.scope.item.now.space.items)) (flat_map (members_on l.fn.side) (map class_member_view (take l.node-index l.nodes)));
  named : All IsRawMember l.members.items;
}

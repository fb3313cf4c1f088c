use Rattle.std.proofs.Common.{◌≡◌, ◌++◌, map, take}
use Rattle.std.specs.List.{flat_map}
use Rattle.midl_tree.specs.Views.{member_view}
use Rattle.midl_names.specs.Uses.{member_uses}
use Rattle.midl_names.specs.Views.{types_of}
use Rattle.midl_names.proofs.uses.push_members.Given as goal

abbrev pub invariant-loop-member : goal.invariant-loop-member
invariant-loop-member l = types_of l.into.items ≡ types_of l.fn.into.items ++ flat_map member_uses (map member_view (take l.member-index l.members))

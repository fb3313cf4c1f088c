use Rattle.std.proofs.Common.{◌≡◌, ◌++◌, map, take}
use Rattle.std.specs.List.{flat_map}
use Rattle.midl_tree.specs.Views.{member_view}
use Rattle.midl_names.specs.Declares.{names_of}
use Rattle.midl_names.specs.Views.{idents_of}
use Rattle.midl_names.proofs.parts.push_members.Given as goal

abbrev pub invariant-loop-member : goal.invariant-loop-member
invariant-loop-member l = idents_of l.into.items ≡ idents_of l.fn.into.items ++ flat_map names_of (map member_view (take l.member-index l.members))

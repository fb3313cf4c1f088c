use Rattle.std.proofs.Common.{◌≡◌, map, take}
use Rattle.std.specs.List.{filter}
use Rattle.midl_tree.specs.Views.{class_member_view}
use Rattle.midl_names.specs.Constructors.{is_plain}
use Rattle.midl_names.proofs.constructors.plain_of.Given as goal

abbrev pub invariant-loop-member : goal.invariant-loop-member
invariant-loop-member l = map (λ m. class_member_view m.now) l.plain.items ≡ filter is_plain (map class_member_view (take l.member-index l.members))

use Rattle.std.proofs.Common.{◌≡◌, ◌++◌, true, map, take}
use Rattle.std.specs.HashMap.{get_by_text}
use Rattle.std.specs.List.{All}
use Rattle.wr_base.specs.declared.declaration.Member.TheVariants.{Property}
use Rattle.midl_tree.specs.Views.{type_view}
use Rattle.midl_names.specs.Resolved.{resolved}
use Rattle.midl_names.specs.Views.{parts_of}
use Rattle.midl_names.specs.RawMembers.{IsRawMember}
use Rattle.midl_names.proofs.members.push_properties.Given as goal

abbrev pub invariant-loop-name : goal.invariant-loop-name
invariant-loop-name l = record {
  so_far : l.into.items ≡ l.fn.into.items ++ map (λ n. Property n.text (resolved (get_by_text l.fn.scope.index.now.sorts) (parts_of l.fn.scope.item.now.space.items) (type_view l.fn.kind)) true) (take l.name-index l.names);
  named : All IsRawMember l.fn.into.items → All IsRawMember l.into.items;
}

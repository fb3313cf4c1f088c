use Rattle.std.proofs.Common.{true, arith}
use Rattle.std.specs.HashMap.{get_by_text}
use Rattle.wr_base.specs.declared.declaration.Member.TheVariants.{Property}
use Rattle.midl_tree.specs.Views.{type_view}
use Rattle.midl_names.specs.Resolved.{resolved}
use Rattle.midl_names.specs.Views.{parts_of}
use Rattle.midl_names.proofs.Mapped.{grown}
use Rattle.midl_names.proofs.members.push_properties.Goals as goal

pub loop-name-preserved : goal.loop-name-preserved
loop-name-preserved c = record {
  so_far = grown (λ n. Property n.text (resolved (get_by_text c.args.scope.now.index.now.sorts) (parts_of c.args.scope.now.item.now.space.items) (type_view c.args.kind.now)) true)
      c.args.names.now c.loop-name.name-index c.name-item.result _ _ _ (omega arith) c.name-item.is c.loop-name.invariant.so_far c.in_ok-push_property.ensures.value;
  named = λ h. c.in_ok-push_property.ensures.named (c.loop-name.invariant.named h);
}

use Rattle.std.proofs.Common.{arith}
use Rattle.std.specs.HashMap.{get_by_text}
use Rattle.midl_tree.specs.Views.{type_view}
use Rattle.midl_names.specs.Resolved.{resolved}
use Rattle.midl_names.specs.Views.{parts_of}
use Rattle.midl_names.proofs.Mapped.{grown}
use Rattle.midl_names.proofs.members.push_fields.Goals as goal

pub loop-name-preserved : goal.loop-name-preserved
loop-name-preserved c = record {
  so_far = grown (λ n. record { name = n.text; ty = resolved (get_by_text c.args.scope.now.index.now.sorts) (parts_of c.args.scope.now.item.now.space.items) (type_view c.args.node.now.kind) })
      c.deref-name-items.result.now c.loop-name.name-index c.name-item.result _ _ _ (omega arith) c.name-item.is c.loop-name.invariant.so_far c.in_ok-push_field.ensures.value;
  named = λ h. c.in_ok-push_field.ensures.named (c.loop-name.invariant.named h);
}

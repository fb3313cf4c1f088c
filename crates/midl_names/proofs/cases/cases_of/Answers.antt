use Rattle.std.proofs.Common.{◌≡◌, ◌+◌, ◌^◌, pos, neg_ℤ, ◌+ℤ◌, ◌≤ℤ◌, arith}
use mir.Syntax.{w128}
use mir.Val.{of_z, to_z}
use Rattle.std.proofs.lemmas.Int.{ints}
use Rattle.std.proofs.lemmas.List.Elements.{All-push}
use Rattle.wr_base.specs.declared.declaration.Case.{Case}
use Rattle.placed_items.specs.Named.{IsName}
use Rattle.midl_names.proofs.CaseTurns.{numbered_more}
use Rattle.midl_names.proofs.cases.cases_of.Goals as goal

pub loop-node-preserved : goal.loop-node-preserved
loop-node-preserved c =
    let low : neg_ℤ (pos (2 ^ 64)) ≤ℤ c.value_or-value.result = c.value_or-value.ensures.low c.loop-node.invariant.low in
    let high : c.value_or-value.result ≤ℤ pos (2 ^ 64 + 1 + c.loop-node.node-index) = c.value_or-value.ensures.high (2 ^ 64 + 1 + c.loop-node.node-index) (omega arith) c.loop-node.invariant.high in
    let is : to_z w128 (of_z w128 c.value_or-value.result) ≡ c.value_or-value.result = omega (arith, ints, low, high) in
    let next : to_z w128 (of_z w128 (to_z w128 (of_z w128 c.value_or-value.result) +ℤ pos 1)) ≡ c.value_or-value.result +ℤ pos 1 = omega (arith, ints, low, high) in
    let step = numbered_more c.loop-node.cases.items (to_z w128 c.loop-node.next-bits) c.value_or-value.result c.args.nodes.now c.loop-node.node-index c.node-item.result _ (omega arith) c.node-item.is
    c.value_or-value.ensures.value c.loop-node.invariant.so_far in
    let named : c.in_ok-name.name ≡ c.node-item.result.name.text = c.in_ok-name.ensures.value in
    record {
      named = rw c.in_ok-push.ensures.items (All-push (λ (k : Case). IsName k.name) c.loop-node.cases.items _ c.loop-node.invariant.named c.in_ok-name.ensures.named);
      so_far = rw (c.in_ok-push.ensures.items, next, is, named) step;
      low = rw next (omega (arith, ints, low));
      high = rw next (omega (arith, ints, high));
    }

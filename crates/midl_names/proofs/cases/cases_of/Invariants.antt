use Rattle.std.proofs.Common.{◌≡◌, ◌++◌, ◌+◌, ◌^◌, pos, neg_ℤ, ◌≤ℤ◌, drop}
use Rattle.std.specs.List.{All}
use Rattle.wr_base.specs.declared.declaration.Case.{Case}
use Rattle.placed_items.specs.Named.{IsName}
use Rattle.midl_names.specs.Members.{cases_from}
use Rattle.midl_names.proofs.cases.cases_of.Given as goal

abbrev pub invariant-loop-node : goal.invariant-loop-node
invariant-loop-node l = record {
  so_far : l.cases.items ++ cases_from l.next (drop l.node-index l.nodes) ≡ cases_from (pos 0) l.nodes;
  named : All (λ (c : Case). IsName c.name) l.cases.items;
  low : neg_ℤ (pos (2 ^ 64)) ≤ℤ l.next;
  high : l.next ≤ℤ pos (2 ^ 64 + 1 + l.node-index);
}

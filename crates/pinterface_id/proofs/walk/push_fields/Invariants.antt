use Rattle.std.proofs.Common.{◌≡◌, ◌≤◌, ◌++◌, map, drop, length}
use Rattle.wr_base.specs.Trees.{tree_of}
use Rattle.pinterface_id.specs.Stack.{part, items_of}
use Rattle.pinterface_id.proofs.walk.push_fields.Given as goal

abbrev pub invariant-more : goal.invariant-more
invariant-more l = record {
  short : l.left ≤ length l.fields;
  done : items_of l.stack.items ≡ map part (map tree_of (map (λ f. f.ty) (drop l.left l.fields))) ++ items_of l.initial.stack.items;
}

abbrev pub decreases-more : goal.decreases-more
decreases-more l = l.left

use Rattle.std.proofs.Common.{length, string_bytes}
use Rattle.wr_base.specs.Trees.{tree_of}
use Rattle.wr_rules.specs.Signatures.{signature_text}
use Rattle.pinterface_id.specs.Stack.{items_of, rest}
use Rattle.pinterface_id.specs.Progress.{SoFar}
use Rattle.pinterface_id.proofs.walk.run.Given as goal

abbrev pub invariant-more : goal.invariant-more
invariant-more l = SoFar l.types (signature_text l.types (tree_of l.ty)) l.flags (items_of l.stack.items) (string_bytes l.text)

abbrev pub decreases-more : goal.decreases-more
decreases-more l = length (rest l.types (items_of l.stack.items))

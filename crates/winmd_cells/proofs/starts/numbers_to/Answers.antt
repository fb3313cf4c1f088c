use Rattle.std.proofs.Common.{◌+◌, ◌∙◌, ap, ◌++◌, ◌∷◌, []}
use Rattle.winmd_cells.proofs.RowLaws.{counted_on, counted_none}
use Rattle.winmd_cells.proofs.starts.numbers_to.Goals as goal

pub loop-i-init : goal.loop-i-init
loop-i-init c = c.new-numbers.ensures.items ∙ counted_none

pub loop-i-preserved : goal.loop-i-preserved
loop-i-preserved c = c.in_ok-push.ensures.items ∙ ap (λ xs. xs ++ (c.loop-i.i + 1) ∷ []) c.loop-i.invariant ∙ counted_on c.loop-i.i

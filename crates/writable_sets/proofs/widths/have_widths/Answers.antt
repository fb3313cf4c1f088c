use Rattle.std.proofs.Common.{subst, take_all, arith}
use Rattle.std.specs.List.{All}
use Rattle.std.proofs.lemmas.List.Elements.{All-more}
use Rattle.writable_sets.specs.Stated.{HasWidths}
use Rattle.writable_sets.proofs.widths.have_widths.Goals as goal

pub loop-declaration-preserved : goal.loop-declaration-preserved
loop-declaration-preserved c =
    All-more HasWidths c.args.types.now c.loop-declaration.declaration-index c.declaration-item.result (omega arith) c.loop-declaration.invariant
    (subst HasWidths c.declaration-item.is c.has_widths.ensures)

pub returns : goal.returns
returns c = subst (All HasWidths) (take_all c.loop-declaration.declaration-index c.args.types.now (omega arith)) c.loop-declaration.invariant

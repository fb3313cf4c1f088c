use Rattle.std.proofs.Common.{List, subst, arith}
use Rattle.std.specs.List.{All}
use Rattle.wr_base.specs.declared.declaration.Declaration.{Declaration}
use Rattle.writable_sets.specs.Stated.{HasWidths}
use Rattle.wr_tools.proofs.SetLemmas.{widths_more}
use Rattle.wr_tools.proofs.set.tell_widths.Goals as goal

pub loop-i-preserved : goal.loop-i-preserved
loop-i-preserved c =
    widths_more c.args.types.now c.loop-i.i c.at.result.now c.at.ensures.value
    (subst (λ (ds : List Declaration). All HasWidths ds) c.from_ref.ensures.value c.have_widths.ensures) c.loop-i.invariant

pub returns : goal.returns
returns c = λ k d l. c.loop-i.invariant k d (let e = c.len-i-end.ensures.len in omega (arith, e, l))

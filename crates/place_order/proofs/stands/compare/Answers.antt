use Rattle.std.proofs.Common.{ap, ◌∙◌}
use Rattle.std.specs.declared.cmp.Ordering.{Ordering}
use Rattle.std.specs.Ordering.{nat_cmp, ordering_then}
use Rattle.place_order.proofs.StandLaws.{compared}
use Rattle.place_order.proofs.stands.compare.Goals as goal

pub returns : goal.returns
returns c =
    c.then-2.ensures ∙ ap (λ (o : Ordering). ordering_then o c.cmp-numbers.result) (c.then.ensures ∙ ap (λ (o : Ordering). ordering_then o c.cmp-offsets.result) c.cmp-files.ensures
    ∙ ap (λ (o : Ordering). ordering_then (nat_cmp c.args.a.now.place.file c.args.b.now.place.file) o) c.cmp-offsets.ensures)
    ∙ ap (λ (o : Ordering). ordering_then (ordering_then (nat_cmp c.args.a.now.place.file c.args.b.now.place.file) (nat_cmp c.args.a.now.place.offset c.args.b.now.place.offset)) o) c.cmp-numbers.ensures
    ∙ compared c.args.a.now c.args.b.now

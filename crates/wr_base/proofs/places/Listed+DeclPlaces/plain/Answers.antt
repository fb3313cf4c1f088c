use Rattle.std.proofs.Common.{◌∙◌, ◌+◌, ◌++◌, ◌∷◌, [], ap, arith}
use Rattle.wr_base.proofs.PlaceLemmas.{next_fits, one_placed}
use Rattle.wr_base.proofs.places.Listed+DeclPlaces.plain.Goals as goal

pub place_one-requires : goal.place_one-requires
place_one-requires c = omega (arith, next_fits c.args.types.now c.loop-i.i c.loop-i.next c.at-declaration.result.now c.at-declaration.ensures.value c.loop-i.invariant.next)

pub overflow_add-next : goal.overflow_add-next
overflow_add-next c = omega (arith, c.count_parts.ensures, next_fits c.args.types.now c.loop-i.i c.loop-i.next c.at-declaration.result.now c.at-declaration.ensures.value c.loop-i.invariant.next)

pub overflow_add-next-in-loop-i : goal.overflow_add-next-in-loop-i
overflow_add-next-in-loop-i c = omega (arith, c.count_parts.ensures, next_fits c.args.types.now c.loop-i.i c.loop-i.next c.at-declaration.result.now c.at-declaration.ensures.value c.loop-i.invariant.next)

pub loop-i-preserved : goal.loop-i-preserved
loop-i-preserved c =
    let both = one_placed c.args.types.now c.loop-i.i c.loop-i.next (c.loop-i.next + (1 + c.count_parts.result)) c.at-declaration.result.now c.loop-i.places c.push.new.self
    c.at-declaration.ensures.value c.loop-i.invariant.next c.loop-i.invariant.places
    (c.in_ok-push.ensures.ok ∙ ap (λ p. c.loop-i.places ++ p ∷ []) c.in_ok-place_one.ensures) (omega (arith, c.count_parts.ensures)) in
    record { places = both.0; next = both.1 }

use Rattle.std.proofs.Common.{◌∷◌, ◌∙◌, List, ℕ, Ok, Err, ap, map, string_bytes, subst, sym, length, arith}
use Rattle.std.proofs.lemmas.Result.{err_from_is_err_and}
use Rattle.image_set.specs.Stops.{StopIs}
use Rattle.image_set.specs.Turns.{Turn}
use Rattle.image_set.proofs.LoopLemmas.{Progress, more, stops}
use Rattle.image_set.proofs.TurnLemmas.{turn_at}
use Rattle.image_set.proofs.set.images.Goals as goal

pub returns-in_err-types-clause-stopped : goal.returns-in_err-types-clause-stopped
returns-in_err-types-clause-stopped g c =
    let p = err_from_is_err_and c.from_residual.result c.from_residual.ensures.1 in
    let words : List (List ℕ) = map string_bytes c.args.words.now in
    let held = g.S.Store.held c.args.store.now in
    let name : List ℕ = string_bytes c.in-Some.word.now in
    let after : List (List ℕ) = map string_bytes c.in-Some.after.now in
    let here : Progress held words (name ∷ after) c.each.sets.items =
    subst (λ rest. Progress held words rest c.each.sets.items) (ap (map string_bytes) c.in-Some.ensures.cases.0) c.each.invariant.progress in
    let turn : Turn held (length c.each.sets.items) name (Err c.in_err-types.field-0.0) =
    turn_at _ held _ _ _ name _ c.each.invariant.kept (c.len.ensures ∙ c.each.sets.ok.0) c.as_str.ensures.value c.in_err-types.ensures.turn in
    let is : StopIs held words c.in_err-types.field-0.0 = stops held words after c.each.sets.items name here c.in_err-types.field-0.0 turn in
    rw (p.1, p.2) is

pub each-preserved : goal.each-preserved
each-preserved g c =
    let words : List (List ℕ) = map string_bytes c.args.words.now in
    let held = g.S.Store.held c.args.store.now in
    let name : List ℕ = string_bytes c.in-Some.word.now in
    let after : List (List ℕ) = map string_bytes c.in-Some.after.now in
    let here : Progress held words (name ∷ after) c.each.sets.items =
    subst (λ rest. Progress held words rest c.each.sets.items) (ap (map string_bytes) c.in-Some.ensures.cases.0) c.each.invariant.progress in
    let turn : Turn held (length c.each.sets.items) name (Ok c.in_ok-types.types) =
    turn_at _ held _ _ _ name _ c.each.invariant.kept (c.len.ensures ∙ c.each.sets.ok.0) c.as_str.ensures.value c.in_ok-types.ensures.turn in
    record {
      progress = subst (Progress held words after) (sym c.in_ok-push.ensures.items) (more held words after c.each.sets.items name c.in_ok-types.types here turn);
      kept = c.in_ok-types.ensures.kept ∙ c.each.invariant.kept;
      later = omega (arith, c.in_ok-types.ensures.later, c.each.invariant.later);
    }

use Rattle.std.proofs.Common.{◌≡◌, ◌+◌, ◌∷◌, suc, ℕ, subst, map, ap, arith}
use Rattle.std.proofs.lemmas.Result.{err_from_is_err_and}
use Rattle.winmd_cells.specs.Seen.{tables_in}
use Rattle.winmd_set.specs.Counts.{Counts}
use Rattle.winmd_set.specs.Stated.{stated_seen}
use Rattle.winmd_set.specs.Steps.{steps_of}
use Rattle.winmd_set.proofs.StepLaws.{goes_on, stopped}
use Rattle.winmd_set.proofs.steps.check_rest.Goals as goal

pub returns-in_err-parts : goal.returns-in_err-parts
returns-in_err-parts c =
    let p = err_from_is_err_and c.from_residual.result c.from_residual.ensures.1 in
    let here = c.in-Some.ensures.cases.0 in
    rw (p.1, p.2) (
    stopped (tables_in c.args.image.now) c.each.types c.each.parts (stated_seen c.in-Some.first.now) (map stated_seen c.in-Some.after.now) (map stated_seen c.each.rest.now)
    (steps_of (tables_in c.args.image.now) 0 0 (map stated_seen c.args.list.now)) c.in_err-parts.field-0.0 (ap (map stated_seen) here) c.each.invariant.3
    (c.in_err-parts.ensures.step c.in-Some.after.now (subst (Counts c.each.counts) here c.each.invariant.2)))

pub each-preserved : goal.each-preserved
each-preserved c =
    let here = c.in-Some.ensures.cases.0 in
    let counts : Counts c.each.counts (c.in-Some.first.now ∷ c.in-Some.after.now) = subst (Counts c.each.counts) here c.each.invariant.2 in
    let next : suc c.each.types ≡ c.each.types + 1 = omega arith in (
      c.in_ok-parts.ensures.parts,
      (let l = c.in_ok-parts.ensures.types in omega (arith, l)),
      c.in_ok-parts.ensures.rest c.in-Some.after.now counts,
      subst (λ (n : ℕ). steps_of (tables_in c.args.image.now) n c.in_ok-parts.parts (map stated_seen c.in-Some.after.now) ≡ steps_of (tables_in c.args.image.now) 0 0 (map stated_seen c.args.list.now)) next (
          goes_on (tables_in c.args.image.now) c.each.types c.each.parts c.in_ok-parts.parts (stated_seen c.in-Some.first.now) (map stated_seen c.in-Some.after.now) (map stated_seen c.each.rest.now)
          (steps_of (tables_in c.args.image.now) 0 0 (map stated_seen c.args.list.now)) (ap (map stated_seen) here) c.each.invariant.3 (c.in_ok-parts.ensures.step c.in-Some.after.now counts)),
    )

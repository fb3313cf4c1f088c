use Rattle.std.proofs.Common.{◌≡◌, ℕ, ◌+◌, ◌*◌, ◌/◌, ◌==◌, List, length, min, position, ap, sym, ◌∙◌, arith}
use Rattle.strings_heap.specs.Places.{first_zero}
use Rattle.strings_heap.proofs.PlaceLaws.{first_zero-found, first_zero-later}
use Rattle.strings_heap.proofs.StepLaws.{place_there}
use Rattle.strings_heap.proofs.lookup.end_of.Goals as goal

pub returns-in-Some : goal.returns-in-Some
returns-in-Some c =
    first_zero-found c.args.bytes.now c.args.at c.min-stop.result c.in-Some.count (omega (arith, c.min-stop.ensures, c.requires.within)) (omega (arith, c.min-stop.ensures))
    (ap (λ (x : List ℕ). position (λ (b : ℕ). b == 0) x) (sym c.between.ensures) ∙ sym c.first_zero.ensures ∙ c.in-Some.is)

pub returns-in-None : goal.returns-in-None
returns-in-None c =
    let place = place_there c.args.bytes.now c.args.places.now (c.args.at / 64 + 1) c.place_at.result c.requires.places (omega (arith, c.requires.places.count, c.requires.within)) c.place_at.ensures in
    let stop : min (64 * (c.args.at / 64 + 1)) (length c.args.bytes.now) ≡ c.min-stop.result = omega (arith, c.min-stop.ensures) in
    place.zero
    ∙ ap (λ (n : ℕ). first_zero c.args.bytes.now n) stop
    ∙ first_zero-later c.args.bytes.now c.args.at c.min-stop.result (omega (arith, c.min-stop.ensures, c.requires.within)) (omega (arith, c.min-stop.ensures))
    (ap (λ (x : List ℕ). position (λ (b : ℕ). b == 0) x) (sym c.between.ensures) ∙ sym c.first_zero.ensures ∙ c.in-None.is)

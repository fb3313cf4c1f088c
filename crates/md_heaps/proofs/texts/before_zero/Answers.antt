use Rattle.std.proofs.Common.{◌≡◌, ◌==◌, ℕ, ◌+◌, ◌-◌, take, drop, ap, subst, sym, ◌∙◌, arith}
use Rattle.std.specs.List.{position}
use Rattle.md_heaps.specs.Texts.{TextAt}
use Rattle.md_heaps.proofs.TextLaws.{text_found, no_zero}
use Rattle.md_heaps.proofs.texts.before_zero.Goals as goal

pub returns-in-Some : goal.returns-in-Some
returns-in-Some c =
    let at_tail = ap (position (λ b. b == 0)) (sym c.tail.ensures) in
    let count : c.in-Some.count ≡ c.args.start + c.in-Some.count - c.args.start = omega arith in
    subst (λ (n : ℕ). TextAt c.args.heap.now c.args.start (take n (drop c.args.start c.args.heap.now))) count
    (text_found c.args.heap.now c.args.start c.in-Some.count (at_tail ∙ sym c.first_zero.ensures ∙ c.in-Some.is))

pub returns-in-None : goal.returns-in-None
returns-in-None c = no_zero (drop c.args.start c.args.heap.now) (ap (position (λ b. b == 0)) (sym c.tail.ensures) ∙ sym c.first_zero.ensures ∙ c.in-None.is)

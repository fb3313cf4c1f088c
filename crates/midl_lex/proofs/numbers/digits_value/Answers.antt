use Rattle.std.proofs.Common.{◌≡◌, ℕ, ◌<◌, ◌+◌, ◌*◌, length, drop, get_or, ap, ◌∙◌, arith}
use Rattle.std.specs.Char.{digit_value}
use Rattle.std.specs.Str.Parse.{digits_value_after}
use Rattle.midl_lex.proofs.Values.{value_step, value_ge, value_end}
use Rattle.midl_lex.proofs.numbers.digits_value.Goals as goal

pub returns-in_default : goal.returns-in_default
returns-in_default c =
    let lt : c.more.digit-index < length c.args.digits.now = omega arith in
    let g = value_ge c.args.base c.more.value c.more.digit-index c.args.digits.now c.requires lt c.more.invariant.same in
    let none = c.in_default.ensures in
    λ h. omega (arith, g, none)

pub returns-in_default-checked_add : goal.returns-in_default-checked_add
returns-in_default-checked_add c =
    let lt : c.more.digit-index < length c.args.digits.now = omega arith in
    let g = value_ge c.args.base c.more.value c.more.digit-index c.args.digits.now c.requires lt c.more.invariant.same in
    let none = c.in_default-checked_add.ensures in
    let shifted = c.in-Some.ensures.1 in
    let d = c.digit_value.ensures in
    λ h. omega (arith, g, none, shifted, d)

pub more-preserved : goal.more-preserved
more-preserved c =
    let lt : c.more.digit-index < length c.args.digits.now = omega arith in
    let step = value_step c.args.base c.more.value c.more.digit-index c.args.digits.now lt c.more.invariant.same in
    let e : c.in-Some-checked_add.sum ≡ c.more.value * c.args.base + digit_value (get_or c.args.digits.now c.more.digit-index 0) =
    omega (arith, c.in-Some-checked_add.ensures.1, c.in-Some.ensures.1, c.digit_value.ensures)
    in
    record {
      same = ap (λ (n : ℕ). digits_value_after c.args.base n (drop (c.more.digit-index + 1) c.args.digits.now)) e ∙ step;
      small = omega (arith, c.in-Some-checked_add.ensures.0, c.in-Some-checked_add.ensures.1);
    }

pub returns : goal.returns
returns c =
    let e = value_end c.args.base c.more.value c.more.digit-index c.args.digits.now (omega arith) c.more.invariant.same in
    (omega (arith, e, c.more.invariant.small), e)

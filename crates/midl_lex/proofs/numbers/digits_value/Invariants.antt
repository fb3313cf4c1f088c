use Rattle.std.proofs.Common.{◌≡◌, ◌<◌, ◌^◌, drop}
use Rattle.std.specs.Str.Parse.{digits_value, digits_value_after}
use Rattle.midl_lex.proofs.numbers.digits_value.Given as goal

abbrev pub invariant-more : goal.invariant-more
invariant-more l = record { same : digits_value_after l.base l.value (drop l.digit-index l.digits) ≡ digits_value l.base l.digits; small : l.value < 2 ^ 64 }

use Rattle.std.proofs.Common.{◌≡◌, length}
use Rattle.grammar.specs.Readers.{after_front}
use Rattle.midl_parse.specs.ReadEnums.{more_cases_at}
use Rattle.midl_parse.proofs.enums.more_cases.Given as goal

abbrev pub invariant-more : goal.invariant-more
invariant-more l = after_front l.cases.items more_cases_at l.rest ≡ after_front l.fn.cases.items more_cases_at l.fn.tokens

abbrev pub decreases-more : goal.decreases-more
decreases-more l = length l.rest

use Rattle.std.proofs.Common.{◌≡◌, length}
use Rattle.grammar.specs.Readers.{after_front}
use Rattle.midl_words.specs.Reading.{more_dots_at}
use Rattle.midl_words.proofs.reading.more_dots.Given as goal

abbrev pub invariant-more : goal.invariant-more
invariant-more l = after_front l.names.items more_dots_at l.rest ≡ after_front l.fn.names.items more_dots_at l.fn.tokens

abbrev pub decreases-more : goal.decreases-more
decreases-more l = length l.rest

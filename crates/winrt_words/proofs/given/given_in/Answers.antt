use Rattle.std.proofs.Common.{◌∙◌}
use Rattle.clap.specs.Words.{found_of}
use Rattle.winrt_words.proofs.FormLemmas.{no_out, ok_as, some_out}
use Rattle.winrt_words.proofs.given.given_in.Goals as goal

pub returns-in-Some : goal.returns-in-Some
returns-in-Some c = ok_as c.given_with.result (λ given e. e ∙ some_out (found_of c.args.matches.now) c.in-Some.out.now c.in-Some.ensures) c.given_with.ensures

pub returns-in-None : goal.returns-in-None
returns-in-None c = no_out (found_of c.args.matches.now) c.in-None.ensures

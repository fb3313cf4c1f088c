use Rattle.std.proofs.Common.{lit<, Some, None}
use Rattle.std.proofs.lemmas.Str.Pattern.{strip_prefix_char}
use Rattle.source_set.proofs.TextLemmas.{stripped, unstripped}
use Rattle.source_set.proofs.texts.without_first.Goals as goal

pub returns-in-Some : goal.returns-in-Some
returns-in-Some c = stripped 34 c.args.text.now c.in-Some.body.now (strip_prefix_char 34 c.args.text.now (Some c.in-Some.body) c.in-Some.ensures.cases (lit< tt))

pub returns-in-None : goal.returns-in-None
returns-in-None c = unstripped 34 c.args.text.now (strip_prefix_char 34 c.args.text.now None c.in-None.ensures.cases (lit< tt))

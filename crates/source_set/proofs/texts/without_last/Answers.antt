use Rattle.std.proofs.Common.{lit<, Some, None}
use Rattle.std.proofs.lemmas.Str.Pattern.{strip_suffix_char}
use Rattle.source_set.proofs.TextLemmas.{strip_end, unstrip_end}
use Rattle.source_set.proofs.texts.without_last.Goals as goal

pub returns-in-Some : goal.returns-in-Some
returns-in-Some c = strip_end 34 c.args.text.now c.in-Some.body.now (strip_suffix_char 34 c.args.text.now (Some c.in-Some.body) c.in-Some.ensures.cases (lit< tt))

pub returns-in-None : goal.returns-in-None
returns-in-None c = unstrip_end 34 c.args.text.now (strip_suffix_char 34 c.args.text.now None c.in-None.ensures.cases (lit< tt))

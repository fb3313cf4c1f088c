use Rattle.std.proofs.Common.{codes}
use Rattle.std.proofs.lemmas.Str.Pattern.{ends_text}
use Rattle.source_set.proofs.texts.ends_idl.Goals as goal

pub returns : goal.returns
returns c = ends_text c.ends_with.result (codes ".idl") c.args.small.now c.ends_with.ensures.cases

use Rattle.std.proofs.Common.{codes}
use Rattle.std.proofs.lemmas.Str.Pattern.{starts_text}
use Rattle.source_set.proofs.texts.begins_windows.Goals as goal

pub returns : goal.returns
returns c = starts_text c.starts_with.result (codes "windows.") c.args.small.now c.starts_with.ensures.cases

use Rattle.std.proofs.Common.{map, string_bytes}
use Rattle.source_set.proofs.set.sources.Goals as goal

pub returns-clause-ok : goal.returns-clause-ok
returns-clause-ok g c = c.in_ok-read_on.ensures.ok (map string_bytes c.args.words.now) c.in_ok-names.ensures

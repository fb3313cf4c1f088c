use Rattle.std.proofs.Common.{map, string_bytes}
use Rattle.wr_tools.proofs.outcome.compiled.Goals as goal

pub returns-in-Err-clause-is : goal.returns-in-Err-clause-is
returns-in-Err-clause-is g c = λ out. c.stopped.ensures.is out (map string_bytes c.args.words.now) (g.S.Store.held c.args.store.now) c.in-Err.ensures.stopped

pub returns-in-Ok-clause-is : goal.returns-in-Ok-clause-is
returns-in-Ok-clause-is g c = λ out. c.resolved.ensures.is out (map string_bytes c.args.words.now) (g.S.Store.held c.args.store.now) c.in-Ok.ensures.ok

use Rattle.std.proofs.Common.{sym}
use Rattle.winmd_blobs.proofs.spelled.at_name.Goals as goal

pub returns-in-Ok : goal.returns-in-Ok
returns-in-Ok c = rw (sym c.compressed.ensures.exact, c.in-Ok.is) (c.at_token.ensures c.in-Ok.found.1)

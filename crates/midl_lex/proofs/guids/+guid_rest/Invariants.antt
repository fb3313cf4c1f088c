use Rattle.std.proofs.Common.{length}
use Rattle.midl_lex.proofs.guids.+guid_rest.Given as goal

abbrev pub decreases-guid_rest : goal.decreases-guid_rest
decreases-guid_rest l = length l.bytes.now

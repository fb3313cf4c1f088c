use Rattle.std.proofs.Common.{sym}
use Rattle.md_bytes.proofs.ZeroLemmas.{length-padded}
use Rattle.winmd_image.proofs.image.padded_size.Goals as goal

pub returns : goal.returns
returns c = sym (length-padded c.args.bytes.now)

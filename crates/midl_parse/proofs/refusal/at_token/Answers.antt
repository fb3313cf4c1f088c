use Rattle.midl_words.proofs.FromLexing.{piece_ascii}
use Rattle.midl_parse.proofs.refusal.at_token.Goals as goal

pub from_ascii-requires : goal.from_ascii-requires
from_ascii-requires c = rw c.text.ensures.value (piece_ascii c.args.token.now c.text.ensures.fits)

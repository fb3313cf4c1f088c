use Rattle.std.proofs.lemmas.Str.{IsUtf8-from_ascii}
use Rattle.ranked.proofs.name.Name.from_ascii.Goals as goal

pub from_utf8-requires : goal.from_utf8-requires
from_utf8-requires c = IsUtf8-from_ascii c.args.bytes.now c.requires

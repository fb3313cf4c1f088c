use Rattle.winmd_source.proofs.NameLaws.{identifier_ascii}
use Rattle.winmd_source.proofs.names.name_of.Goals as goal

pub from_ascii-requires : goal.from_ascii-requires
from_ascii-requires c = identifier_ascii c.args.most c.args.offset c.args.bytes.now c.in_ok-name.name.now c.in_ok-name.ensures

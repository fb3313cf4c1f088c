use Rattle.winmd_source.proofs.NameLaws.{path_text}
use Rattle.winmd_source.proofs.names.full_name.Goals as goal

pub owned_path-requires-clause-text : goal.owned_path-requires-clause-text
owned_path-requires-clause-text c = path_text c.args.offset c.args.bytes.now c.in_ok-path.path.now c.in_ok-path.ensures

use Rattle.std.proofs.Common.{◌∙◌}
use Rattle.winmd_index.proofs.NameLaws.{same_meanings}
use Rattle.winmd_index.proofs.names.names_of.Goals as goal

pub returns : goal.returns
returns c = same_meanings c.args.image.now c.put_refs.new.names (c.in_ok-put_refs.ensures.defs ∙ c.in_ok-put_defs.ensures.defs) c.in_ok-put_refs.ensures.refs

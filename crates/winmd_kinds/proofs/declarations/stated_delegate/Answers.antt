use Rattle.std.proofs.Common.{map}
use Rattle.winmd_attributes.specs.Seen.{attribute_seen}
use Rattle.winmd_cells.specs.Seen.{tables_in}
use Rattle.winmd_kinds.proofs.PlainLaws.{plain_delegate}
use Rattle.winmd_kinds.proofs.declarations.stated_delegate.Goals as goal

pub returns : goal.returns
returns c = plain_delegate (tables_in c.args.source.now.image) c.args.n c.args.name (map (attribute_seen c.args.source.now.image) c.args.attributes.now) c.delegate_of.result c.delegate_of.ensures

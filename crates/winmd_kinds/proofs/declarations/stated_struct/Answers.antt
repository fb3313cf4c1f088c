use Rattle.std.proofs.Common.{map}
use Rattle.winmd_attributes.specs.Seen.{attribute_seen}
use Rattle.winmd_cells.specs.Seen.{tables_in}
use Rattle.winmd_kinds.proofs.PlainLaws.{plain_struct}
use Rattle.winmd_kinds.proofs.declarations.stated_struct.Goals as goal

pub returns : goal.returns
returns c = plain_struct (tables_in c.args.source.now.image) c.args.n c.args.name (map (attribute_seen c.args.source.now.image) c.args.attributes.now) c.struct_of.result c.struct_of.ensures

use Rattle.std.proofs.Common.{map}
use Rattle.winmd_attributes.specs.Seen.{attribute_seen}
use Rattle.winmd_cells.specs.Seen.{tables_in}
use Rattle.winmd_kinds.proofs.PlainLaws.{plain_enum}
use Rattle.winmd_kinds.proofs.declarations.stated_enum.Goals as goal

pub returns : goal.returns
returns c = plain_enum (tables_in c.args.source.now.image) c.args.n c.args.name (map (attribute_seen c.args.source.now.image) c.args.attributes.now) c.enum_of.result c.enum_of.ensures

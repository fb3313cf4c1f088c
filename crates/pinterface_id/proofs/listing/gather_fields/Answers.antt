use Rattle.std.proofs.Common.{arith}
use Rattle.wr_base.specs.declared.declaration.Field.{Field}
use Rattle.wr_base.specs.Trees.{tree_of}
use Rattle.pinterface_id.specs.Gathering.{field_ids}
use Rattle.pinterface_id.specs.Listing.{ids_within}
use Rattle.pinterface_id.proofs.Gatherings.{gathers_item, gathers_mapped}
use Rattle.pinterface_id.proofs.listing.gather_fields.Goals as goal

pub loop-field-preserved : goal.loop-field-preserved
loop-field-preserved c = gathers_item (field_ids c.args.types.now) c.args.fields.now c.loop-field.field-index c.field-item.result c.args.gathered.now c.loop-field.gathered c.gather_use.new.gathered (omega arith) c.field-item.is c.loop-field.invariant c.in_ok-gather_use.ensures

pub returns : goal.returns
returns c = gathers_mapped c.args.fields.now c.loop-field.field-index c.args.gathered.now c.loop-field.gathered (omega arith) (ids_within c.args.types.now) (λ (f : Field). tree_of f.ty) c.loop-field.invariant

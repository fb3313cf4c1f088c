use Rattle.std.proofs.Common.{arith, sym, append-nil}
use Rattle.struct_cycles.specs.Places.{step_of}
use Rattle.struct_cycles.proofs.Links.{flat_turn}
use Rattle.struct_cycles.proofs.held.put_fields.Goals as goal

pub loop-field-init : goal.loop-field-init
loop-field-init c = sym (append-nil c.args.list.now.items)

pub loop-field-preserved : goal.loop-field-preserved
loop-field-preserved c =
    flat_turn (step_of c.args.types.now) c.args.fields.now c.loop-field.field-index c.field-item.result c.args.list.now.items c.loop-field.list.items c.put_field.new.list.items (omega arith) c.field-item.is c.loop-field.invariant c.in_ok-put_field.ensures

use Rattle.winmd_uses.proofs.UseLaws.{instance_cell}
use Rattle.winmd_uses.proofs.used.Used.take_cell.Goals as goal

pub returns-in_ok-take_instance-in-Inst : goal.returns-in_ok-take_instance-in-Inst
returns-in_ok-take_instance-in-Inst c =
    instance_cell c.take_use.result _ _ c.args.ty.now c.args.self.now c.take_instance.new.self c.take_use.new.self c.in-Inst.is c.in_ok-take_instance-in-Inst.ensures c.take_use.ensures

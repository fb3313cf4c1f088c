use Rattle.winmd_uses.proofs.MemberLaws.{event_taken, method_taken, property_taken}
use Rattle.winmd_uses.proofs.used.Used.take_member.Goals as goal

pub returns-in-Method : goal.returns-in-Method
returns-in-Method c = method_taken c.take_method.result c.args.member.now c.in-Method.name c.in-Method.abi c.in-Method.sig c.args.repeated c.args.self.now c.take_method.new.self c.in-Method.is c.take_method.ensures

pub returns-in-Property : goal.returns-in-Property
returns-in-Property c = property_taken c.take_use.result c.args.member.now c.in-Property.name c.in-Property.ty c.in-Property.put c.args.repeated c.args.self.now c.take_use.new.self c.in-Property.is c.take_use.ensures

pub returns-in-Event : goal.returns-in-Event
returns-in-Event c = event_taken c.take_event.result c.args.member.now c.in-Event.name c.in-Event.ty c.args.repeated c.args.self.now c.take_event.new.self c.in-Event.is c.take_event.ensures

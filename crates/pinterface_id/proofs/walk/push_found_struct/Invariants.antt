use Rattle.std.proofs.Common.{take, string_bytes}
use Rattle.pinterface_id.specs.Found.{parts_of, Flows}
use Rattle.pinterface_id.proofs.walk.push_found_struct.Given as goal

abbrev pub invariant-loop-part : goal.invariant-loop-part
invariant-loop-part l = Flows (parts_of (take l.part-index l.fields)) (string_bytes l.initial.text) (string_bytes l.text)

use Rattle.std.proofs.Common.{subst, string_bytes, arith}
use Rattle.std.proofs.lemmas.List.{take_all}
use Rattle.pinterface_id.specs.Found.{Flows, parts_of}
use Rattle.pinterface_id.proofs.FoundLaws.{part_stops, struct_written}
use Rattle.pinterface_id.proofs.walk.push_found_struct.Goals as goal

pub returns : goal.returns
returns c =
    struct_written c.args.name.now c.args.fields.now (string_bytes c.args.text.now) (string_bytes c.push_head.new.text) (string_bytes c.loop-part.text) (string_bytes c.push_str.new.self)
    c.in_ok-push_head.ensures
    (subst (λ fs. Flows (parts_of fs) (string_bytes c.push_head.new.text) (string_bytes c.loop-part.text)) (take_all c.loop-part.part-index c.args.fields.now (omega arith)) c.loop-part.invariant)
    c.in_ok-push_str.ensures.bytes

pub returns-then-not-branch : goal.returns-then-not-branch
returns-then-not-branch c =
    part_stops c.args.name.now c.args.fields.now c.loop-part.part-index _ c.in_ok-push_found_part.field-0 (string_bytes c.loop-part.text) (string_bytes c.push_found_part.new.text)
    (omega arith) c.if-not-branch.true c.in_ok-push_found_part.ensures

use Rattle.std.proofs.Common.{◌∷◌, true, false, set, refl, sym, ap, subst, string_bytes, arith}
use Rattle.wr_base.specs.Trees.{tree_of}
use Rattle.pinterface_id.specs.Stack.{Item, item_of, items_of, Opened}
use Rattle.pinterface_id.specs.Progress.{Advanced}
use Rattle.pinterface_id.proofs.Instances.{part_advances, leave_more, if_ok_then}
use Rattle.pinterface_id.proofs.walk.advance.Goals as goal

pub returns-in_ok-push_str-in-Part : goal.returns-in_ok-push_str-in-Part
returns-in_ok-push_str-in-Part c =
    if_ok_then c.enter.result _ _
    (λ fine h. subst (λ (w : Item). Advanced c.args.types.now fine c.args.flags.now w (items_of c.args.stack.now.items) (string_bytes c.args.text.now) c.enter.new.flags (items_of c.enter.new.stack.items) (string_bytes c.enter.new.text)) (sym (ap item_of c.in-Part.is))
    (part_advances c.args.types.now fine c.args.flags.now (items_of c.args.stack.now.items) (string_bytes c.args.text.now) (tree_of c.in-Part.part.now) c.enter.new.flags (items_of c.enter.new.stack.items) (string_bytes c.push_str.new.self) (string_bytes c.enter.new.text)
    (subst (λ (w : Item). Opened c.args.types.now c.args.flags.now (w ∷ items_of c.args.stack.now.items)) (ap item_of c.in-Part.is) c.requires.opened) c.in_ok-push_str-in-Part.ensures.bytes h)) c.enter.ensures

pub returns-in_ok-push_str-in-Leave : goal.returns-in_ok-push_str-in-Leave
returns-in_ok-push_str-in-Leave c =
    subst (λ (w : Item). Advanced c.args.types.now true c.args.flags.now w (items_of c.args.stack.now.items) (string_bytes c.args.text.now) (set c.args.flags.now c.in-Leave.i false) (items_of c.args.stack.now.items) (string_bytes c.push_str-in-Leave.new.self)) (sym (ap item_of c.in-Leave.is)) (
      λ whole s. leave_more c.args.types.now whole c.args.flags.now (items_of c.args.stack.now.items) (string_bytes c.args.text.now) c.in-Leave.i (set c.args.flags.now c.in-Leave.i false) (string_bytes c.push_str-in-Leave.new.self) c.requires.order s refl c.in_ok-push_str-in-Leave.ensures.bytes,
      omega arith,
    )

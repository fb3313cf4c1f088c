use Rattle.std.proofs.Common.{ap, sym, string_bytes}
use Rattle.wr_base.specs.Trees.{tree_of}
use Rattle.wr_rules.specs.Signatures.{signature_text}
use Rattle.pinterface_id.specs.Stack.{item_of, items_of}
use Rattle.pinterface_id.proofs.PieceLaws.{items_popped}
use Rattle.pinterface_id.proofs.Instances.{starts_from, fails_from, advances, lessens, gives_up}
use Rattle.pinterface_id.proofs.walk.run.Goals as goal

pub returns-then-not-branch : goal.returns-then-not-branch
returns-then-not-branch c =
    sym (fails_from c.args.types.now c.in_ok-enter.field-0 c.args.flags.now c.enter.new.flags (items_of c.new-stack.result.items) (items_of c.enter.new.stack.items) (tree_of c.args.ty.now) (string_bytes c.new-text.result) (string_bytes c.enter.new.text)
    c.requires.opened (ap items_of c.new-stack.ensures.items) c.if-not-branch.true c.in_ok-enter.ensures)

pub more-init : goal.more-init
more-init c =
    starts_from c.args.types.now c.in_ok-enter.field-0 c.args.flags.now c.enter.new.flags (items_of c.new-stack.result.items) (items_of c.enter.new.stack.items) (tree_of c.args.ty.now) (string_bytes c.new-text.result) (string_bytes c.enter.new.text)
    c.requires.opened (ap items_of c.new-stack.ensures.items) c.new-text.ensures.bytes c.if-not-branch.false c.in_ok-enter.ensures

pub returns-then-not-branch-2 : goal.returns-then-not-branch-2
returns-then-not-branch-2 c =
    sym (gives_up c.args.types.now c.in_ok-advance.field-0 (signature_text c.args.types.now (tree_of c.args.ty.now)) c.more.flags (items_of c.more.stack.items) (items_of c.pop.new.self.items) (item_of c.in-Some.work) (string_bytes c.more.text)
    c.advance.new.flags (items_of c.advance.new.stack.items) (string_bytes c.advance.new.text)
    (items_popped c.more.stack.items c.pop.new.self.items c.pop.result c.in-Some.work c.pop.ensures.items c.in-Some.is) c.in_ok-advance.ensures c.if-not-branch-2.true c.more.invariant)

pub more-preserved : goal.more-preserved
more-preserved c =
    advances c.args.types.now c.in_ok-advance.field-0 (signature_text c.args.types.now (tree_of c.args.ty.now)) c.more.flags (items_of c.more.stack.items) (items_of c.pop.new.self.items) (item_of c.in-Some.work) (string_bytes c.more.text)
    c.advance.new.flags (items_of c.advance.new.stack.items) (string_bytes c.advance.new.text)
    (items_popped c.more.stack.items c.pop.new.self.items c.pop.result c.in-Some.work c.pop.ensures.items c.in-Some.is) c.in_ok-advance.ensures c.if-not-branch-2.false c.more.invariant

pub more-smaller : goal.more-smaller
more-smaller c =
    lessens c.args.types.now c.in_ok-advance.field-0 (signature_text c.args.types.now (tree_of c.args.ty.now)) c.more.flags (items_of c.more.stack.items) (items_of c.pop.new.self.items) (item_of c.in-Some.work) (string_bytes c.more.text)
    c.advance.new.flags (items_of c.advance.new.stack.items) (string_bytes c.advance.new.text)
    (items_popped c.more.stack.items c.pop.new.self.items c.pop.result c.in-Some.work c.pop.ensures.items c.in-Some.is) c.in_ok-advance.ensures c.if-not-branch-2.false

use Rattle.std.proofs.Common.{◌++◌, List, map, length, sym, ap, ◌∙◌, string_bytes}
use Rattle.wr_rules.specs.Kinds.{named}
use Rattle.wr_base.specs.Trees.{tree_of}
use Rattle.pinterface_id.specs.declared.stack.Work.TheVariants.{Close}
use Rattle.pinterface_id.specs.Stack.{Item, part, items_of, template_id}
use Rattle.pinterface_id.proofs.PieceLaws.{items_push}
use Rattle.pinterface_id.proofs.Instances.{instance_moves, instance_fails}
use Rattle.pinterface_id.proofs.walk.enter.Goals as goal

pub returns-in-None : goal.returns-in-None
returns-in-None c =
    instance_fails c.args.types.now (items_of c.args.stack.now.items) c.args.flags.now c.args.ty.now c.in-Inst.name c.in-Inst.arguments c.in-Inst.is c.requires.opened
    (ap (λ us. template_id (named c.args.types.now c.in-Inst.name (length us))) (sym c.as_slice-arguments.ensures) ∙ ap template_id (sym c.named.ensures.value) ∙ sym c.template_id.ensures ∙ c.in-None.is)

pub returns-in_ok-push_uses-in-Some : goal.returns-in_ok-push_uses-in-Some
returns-in_ok-push_uses-in-Some c =
    instance_moves c.args.types.now (items_of c.args.stack.now.items) (items_of c.push_uses.new.stack.items) c.args.flags.now c.args.ty.now c.in-Inst.name c.in-Inst.arguments c.in-Some.id
    (string_bytes c.args.text.now) (string_bytes c.push_id_head.new.text) c.in-Inst.is c.requires.opened
    (ap (λ us. template_id (named c.args.types.now c.in-Inst.name (length us))) (sym c.as_slice-arguments.ensures) ∙ ap template_id (sym c.named.ensures.value) ∙ sym c.template_id.ensures ∙ c.in-Some.is)
    (c.in_ok-push_uses-in-Some.ensures ∙ ap (λ us. map part (map tree_of us) ++ items_of c.push.new.self.items) c.as_slice-arguments.ensures
    ∙ ap (λ (s : List Item). map part (map tree_of c.in-Inst.arguments) ++ s) (ap items_of c.in_ok-push-in-Some.ensures.items ∙ items_push c.args.stack.now.items Close))
    c.in_ok-push_id_head-in-Some.ensures

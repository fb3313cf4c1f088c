use Rattle.std.proofs.Common.{rules, ap, ◌∙◌, ◌++◌, arith, length, map, take}
use Rattle.std.specs.List.{flat_map}
use Rattle.sig_blobs.specs.Appending.{KeepsFront}
use Rattle.sig_blobs.specs.Numbers.{number_in}
use Rattle.sig_blobs.specs.Writing.{use_bytes, template_bytes}
use Rattle.wr_base.specs.Trees.{tree_of}
use Rattle.sig_blobs.proofs.FrontLaws.{keeps_on}
use Rattle.sig_blobs.proofs.WriteLaws.{put_more, instance_put}
use Rattle.sig_blobs.proofs.put_uses.+put_use.Goals as goal

pub loop-argument-preserved : goal.loop-argument-preserved
loop-argument-preserved t c =
    put_more tree_of (use_bytes (number_in c.args.tokens.now)) c.as_slice-list.result.now c.loop-argument.argument-index c.argument-item.result
    c.put_template.new.into.items c.loop-argument.into.items c.put_use.new.into.items c.loop-argument-test.true c.loop-argument.invariant
    (c.in_ok-put_use-in-Inst.ensures.ok ∙ ap (λ u. c.loop-argument.into.items ++ use_bytes (number_in c.args.tokens.now) (tree_of u)) c.argument-item.is)

pub returns-after-loop-argument-clause-ok : goal.returns-after-loop-argument-clause-ok
returns-after-loop-argument-clause-ok t c =
    let token = number_in c.args.tokens.now in
    instance_put token c.in-Inst.name c.in-Inst.arguments c.loop-argument.argument-index c.args.ty.now c.args.into.now.items c.put_template.new.into.items c.loop-argument.into.items
    (omega (arith, c.loop-argument-test.false, ap length c.as_slice-list.ensures)) c.in-Inst.is
    (c.in_ok-put_template-in-Inst.ensures.ok ∙ ap (λ xs. c.args.into.now.items ++ template_bytes token c.in-Inst.name (length xs)) c.as_slice-list.ensures)
    (c.loop-argument.invariant ∙ ap (λ xs. c.put_template.new.into.items ++ flat_map (use_bytes token) (map tree_of (take c.loop-argument.argument-index xs))) c.as_slice-list.ensures)

pub returns-in_err-put_use-in-Inst-clause-front : goal.returns-in_err-put_use-in-Inst-clause-front
returns-in_err-put_use-in-Inst-clause-front t c =
    let list : KeepsFront c.put_template.new.into.items c.put_use.new.into.items = keeps_on _ _ _ _ c.loop-argument.invariant c.in_err-put_use-in-Inst.ensures.front in
    let front : KeepsFront c.args.into.now.items c.put_use.new.into.items = keeps_on _ _ _ _ c.in_ok-put_template-in-Inst.ensures.ok list in
    search rules

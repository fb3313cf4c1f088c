use Rattle.std.proofs.Common.{ℕ, List, ◌∷◌, ◌++◌, ap, ◌∙◌, arith}
use Rattle.wr_base.specs.declared.type_use.TypeUse.{TypeUse}
use Rattle.wr_base.specs.Trees.{tree_of}
use Rattle.winmd_uses.specs.Keys.{key_of, marked}
use Rattle.winmd_uses.proofs.KeyLaws.{bytes_more, instance_put}
use Rattle.winmd_uses.proofs.keys.+put_key.Goals as goal

pub loop-argument-preserved : goal.loop-argument-preserved
loop-argument-preserved t c =
    bytes_more (λ (u : TypeUse). key_of (tree_of u)) c.as_slice-argument-items.result.now c.loop-argument.argument-index c.argument-item.result c.put_named-in-Inst.new.into.items c.loop-argument.into.items c.put_key.new.into.items (omega arith) c.argument-item.is c.loop-argument.invariant c.in_ok-put_key-in-Inst.ensures

pub returns-in_ok-push-in-Inst : goal.returns-in_ok-push-in-Inst
returns-in_ok-push-in-Inst t c =
    instance_put c.in-Inst.name c.in-Inst.arguments c.as_slice-argument-items.result.now c.loop-argument.argument-index c.args.ty.now c.args.into.now.items c.put_named-in-Inst.new.into.items c.loop-argument.into.items c.push.new.self.items
    (omega arith) c.as_slice-argument-items.ensures c.in-Inst.is (c.in_ok-put_named-in-Inst.ensures ∙ ap (λ (n : List ℕ). c.args.into.now.items ++ 4 ∷ marked n) c.as_str-in-Inst.ensures.value) c.loop-argument.invariant c.in_ok-push-in-Inst.ensures.items

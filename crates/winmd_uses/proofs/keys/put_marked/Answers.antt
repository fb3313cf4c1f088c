use Rattle.std.proofs.Common.{◌∷◌, [], arith}
use Rattle.winmd_uses.proofs.KeyLaws.{bytes_turn, marked_put}
use Rattle.winmd_uses.proofs.keys.put_marked.Goals as goal

pub loop-byte-preserved : goal.loop-byte-preserved
loop-byte-preserved c = bytes_turn (λ b. 1 ∷ b ∷ []) c.args.name.now c.loop-byte.byte-index 0 c.args.into.now.items c.loop-byte.into.items c.put_byte.new.into.items (omega arith) c.loop-byte.invariant c.in_ok-put_byte.ensures

pub returns : goal.returns
returns c = marked_put c.args.name.now c.loop-byte.byte-index c.args.into.now.items c.loop-byte.into.items c.push.new.self.items (omega arith) c.loop-byte.invariant c.in_ok-push.ensures.items

use Rattle.std.proofs.Common.{◌∷◌, [], map, take, arith}
use Rattle.wr_base.specs.Uses.{text_of}
use Rattle.numbered.specs.Numbers.{number_in}
use Rattle.member_clash.specs.Tables.{Entered, KnownIn}
use Rattle.numbered.proofs.Puts.{by_then, texts_turn}
use Rattle.member_clash.proofs.table.put_use_texts.Goals as goal

pub loop-ty-preserved : goal.loop-ty-preserved
loop-ty-preserved c =
    texts_turn text_of c.args.uses.now c.loop-ty.ty-index c.ty-item.result (omega arith) c.ty-item.is
    (λ ts. Entered c.args.types.now c.args.table.now c.put_use_text.new.table ts c.args.set.now.items c.put_use_text.new.set.items)
    (by_then (λ t. t) (KnownIn c.args.types.now c.loop-ty.table) (KnownIn c.args.types.now c.put_use_text.new.table) (number_in c.args.table.now.texts) (number_in c.loop-ty.table.texts) (number_in c.put_use_text.new.table.texts)
    (map text_of (take c.loop-ty.ty-index c.args.uses.now)) (text_of c.ty-item.result ∷ []) c.args.set.now.items c.loop-ty.set.items c.put_use_text.new.set.items c.loop-ty.invariant c.in_ok-put_use_text.ensures)

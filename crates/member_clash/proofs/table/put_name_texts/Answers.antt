use Rattle.std.proofs.Common.{◌∷◌, [], take, arith}
use Rattle.numbered.specs.Numbers.{number_in}
use Rattle.member_clash.specs.Tables.{Entered, KnownIn}
use Rattle.numbered.proofs.Puts.{by_then, names_turn}
use Rattle.member_clash.proofs.table.put_name_texts.Goals as goal

pub loop-name-preserved : goal.loop-name-preserved
loop-name-preserved c =
    names_turn c.args.names.now c.loop-name.name-index c.name-item.result (omega arith) c.name-item.is
    (λ ts. Entered c.args.types.now c.args.table.now c.put_name_text.new.table ts c.args.set.now.items c.put_name_text.new.set.items)
    (by_then (λ t. t) (KnownIn c.args.types.now c.loop-name.table) (KnownIn c.args.types.now c.put_name_text.new.table) (number_in c.args.table.now.texts) (number_in c.loop-name.table.texts) (number_in c.put_name_text.new.table.texts)
    (take c.loop-name.name-index c.args.names.now) (c.name-item.result ∷ []) c.args.set.now.items c.loop-name.set.items c.put_name_text.new.set.items c.loop-name.invariant c.in_ok-put_name_text.ensures)

use Rattle.std.proofs.Common.{◌∷◌, [], map}
use Rattle.wr_base.specs.Uses.{text_of}
use Rattle.numbered.specs.Numbers.{number_in}
use Rattle.member_clash.specs.Tables.{KnownIn}
use Rattle.numbered.proofs.Puts.{by_then_ok}
use Rattle.member_clash.proofs.table.put_first_text.Goals as goal

pub returns : goal.returns
returns c =
    by_then_ok c.put_use_texts.result (λ t. t) (KnownIn c.args.types.now c.put_name_text.new.table) (KnownIn c.args.types.now c.put_use_texts.new.table) (number_in c.args.table.now.texts) (number_in c.put_name_text.new.table.texts) (number_in c.put_use_texts.new.table.texts)
    (c.args.name.now ∷ []) (map text_of c.args.uses.now) c.args.set.now.items c.put_name_text.new.set.items c.put_use_texts.new.set.items c.in_ok-put_name_text.ensures c.put_use_texts.ensures

use Rattle.std.proofs.Common.{map}
use Rattle.wr_base.specs.Uses.{text_of}
use Rattle.numbered.specs.Numbers.{number_in}
use Rattle.member_clash.specs.Tables.{KnownIn}
use Rattle.numbered.proofs.Puts.{by_then_ok}
use Rattle.member_clash.proofs.table.put_both_texts.Goals as goal

pub returns : goal.returns
returns c =
    by_then_ok c.put_name_texts.result (λ t. t) (KnownIn c.args.types.now c.put_use_texts.new.table) (KnownIn c.args.types.now c.put_name_texts.new.table) (number_in c.args.table.now.texts) (number_in c.put_use_texts.new.table.texts) (number_in c.put_name_texts.new.table.texts)
    (map text_of c.args.uses.now) c.args.names.now c.args.set.now.items c.put_use_texts.new.set.items c.put_name_texts.new.set.items c.in_ok-put_use_texts.ensures c.put_name_texts.ensures

use Rattle.id_clash.specs.Items.{is_had}
use Rattle.id_clash.proofs.ItemLaws.{meets_one, had_more}
use Rattle.id_clash.proofs.items.meet_id.Goals as goal

pub returns : goal.returns
returns c = λ text. meets_one text c.args.id (is_had c.args.reserved.now c.args.ids.now) (is_had c.args.reserved.now c.put_id.new.ids) c.is_had-told.result c.is_had-told.ensures (had_more c.args.reserved.now c.args.ids.now c.put_id.new.ids c.args.id c.in_ok-put_id.ensures.0)

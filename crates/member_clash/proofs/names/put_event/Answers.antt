use Rattle.std.proofs.Common.{◌∷◌, [], ◌++◌, codes}
use Rattle.numbered.specs.Numbers.{number_in}
use Rattle.member_clash.proofs.Puts.{put_then, put_then_ok}
use Rattle.member_clash.proofs.names.put_event.Goals as goal

pub returns : goal.returns
returns c =
    put_then_ok c.put_accessor-2.result (number_in c.args.numbers.now) (number_in c.put_accessor.new.numbers) (number_in c.put_accessor-2.new.numbers) c.put_accessor.new.numbers.count c.put_accessor-2.new.numbers.count
    (c.args.name.now ∷ (codes "add_" ++ c.args.name.now) ∷ []) ((codes "remove_" ++ c.args.name.now) ∷ []) c.args.list.now.items c.put_accessor.new.list.items c.put_accessor-2.new.list.items
    (put_then (number_in c.args.numbers.now) (number_in c.put_name.new.numbers) (number_in c.put_accessor.new.numbers) c.put_name.new.numbers.count c.put_accessor.new.numbers.count
    (c.args.name.now ∷ []) ((codes "add_" ++ c.args.name.now) ∷ []) c.args.list.now.items c.put_name.new.list.items c.put_accessor.new.list.items c.in_ok-put_name.ensures c.in_ok-put_accessor.ensures)
    c.put_accessor-2.ensures

use Rattle.std.proofs.Common.{◌∷◌, [], ◌++◌, codes}
use Rattle.numbered.specs.Numbers.{number_in}
use Rattle.member_clash.proofs.Puts.{put_then_ok}
use Rattle.member_clash.proofs.names.put_both.Goals as goal

pub returns : goal.returns
returns c =
    put_then_ok c.put_accessor.result (number_in c.args.numbers.now) (number_in c.put_read_only.new.numbers) (number_in c.put_accessor.new.numbers) c.put_read_only.new.numbers.count c.put_accessor.new.numbers.count
    (c.args.name.now ∷ (codes "get_" ++ c.args.name.now) ∷ []) ((codes "put_" ++ c.args.name.now) ∷ []) c.args.list.now.items c.put_read_only.new.list.items c.put_accessor.new.list.items c.in_ok-put_read_only.ensures c.put_accessor.ensures

use Rattle.std.proofs.Common.{sym, ap, ◌∙◌}
use Rattle.numbered.specs.Numbers.{number_in}
use Rattle.member_clash.proofs.Puts.{put_one}
use Rattle.member_clash.proofs.names.put_name.Goals as goal

pub returns : goal.returns
returns c =
    put_one (number_in c.args.numbers.now) (number_in c.number.new.numbers) c.number.new.numbers.count c.in_ok-k.k c.args.name.now c.args.list.now.items c.push.new.self.items
    c.in_ok-k.ensures.numbering c.in_ok-k.ensures.kept
    (ap (number_in c.number.new.numbers) (sym (c.as_str.ensures.value ∙ c.in_ok-small.ensures.ok)) ∙ c.in_ok-k.ensures.here)
    c.in_ok-push.ensures.items

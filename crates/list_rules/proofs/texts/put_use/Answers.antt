use Rattle.std.proofs.Common.{sym, ap, ◌∙◌}
use Rattle.wr_base.specs.Uses.{text_of}
use Rattle.numbered.specs.Numbers.{number_in, IsNumbering}
use Rattle.numbered.proofs.Puts.{by_one}
use Rattle.list_rules.proofs.texts.put_use.Goals as goal

pub returns : goal.returns
returns c =
    by_one (λ t. t) (IsNumbering (number_in c.number.new.numbers) c.number.new.numbers.count) (number_in c.args.numbers.now) (number_in c.number.new.numbers) c.in_ok-k.k (text_of c.args.ty.now) c.args.list.now.items c.push.new.self.items
    c.in_ok-k.ensures.numbering c.in_ok-k.ensures.kept (ap (number_in c.number.new.numbers) (sym (c.as_str.ensures.value ∙ c.in_ok-text.ensures)) ∙ c.in_ok-k.ensures.here) c.in_ok-push.ensures.items

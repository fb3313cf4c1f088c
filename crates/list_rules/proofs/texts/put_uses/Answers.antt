use Rattle.std.proofs.Common.{◌∷◌, [], map, take, arith}
use Rattle.wr_base.specs.Uses.{text_of}
use Rattle.numbered.specs.Numbers.{number_in, IsNumbering}
use Rattle.numbered.proofs.Puts.{by_none, by_then, texts_turn}
use Rattle.list_rules.specs.Texts.{PutTexts}
use Rattle.list_rules.proofs.texts.put_uses.Goals as goal

pub loop-ty-init : goal.loop-ty-init
loop-ty-init c = by_none (λ t. t) (IsNumbering (number_in c.args.numbers.now) c.args.numbers.now.count) (number_in c.args.numbers.now) c.args.list.now.items c.requires.numbering

pub put_use-requires : goal.put_use-requires
put_use-requires c = record { numbering = c.loop-ty.invariant.whole }

pub loop-ty-preserved : goal.loop-ty-preserved
loop-ty-preserved c =
    texts_turn text_of c.args.uses.now c.loop-ty.ty-index c.ty-item.result (omega arith) c.ty-item.is
    (λ ts. PutTexts c.args.numbers.now c.put_use.new.numbers ts c.args.list.now.items c.put_use.new.list.items)
    (by_then (λ t. t) (IsNumbering (number_in c.loop-ty.numbers) c.loop-ty.numbers.count) (IsNumbering (number_in c.put_use.new.numbers) c.put_use.new.numbers.count) (number_in c.args.numbers.now) (number_in c.loop-ty.numbers) (number_in c.put_use.new.numbers)
    (map text_of (take c.loop-ty.ty-index c.args.uses.now)) (text_of c.ty-item.result ∷ []) c.args.list.now.items c.loop-ty.list.items c.put_use.new.list.items c.loop-ty.invariant c.in_ok-put_use.ensures)

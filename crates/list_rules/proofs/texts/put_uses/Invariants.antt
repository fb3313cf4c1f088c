use Rattle.std.proofs.Common.{take, map}
use Rattle.wr_base.specs.Uses.{text_of}
use Rattle.list_rules.specs.Texts.{PutTexts}
use Rattle.list_rules.proofs.texts.put_uses.Given as goal

abbrev pub invariant-loop-ty : goal.invariant-loop-ty
invariant-loop-ty l = PutTexts l.initial.numbers l.numbers (map text_of (take l.ty-index l.uses)) l.initial.list.items l.list.items

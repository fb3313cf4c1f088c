use Rattle.std.proofs.Common.{◌||◌, Bool, ap, ◌∙◌, arith}
use Rattle.std.specs.List.{list_any}
use Rattle.std.specs.BTreeSet.{contains_text}
use Rattle.std.proofs.lemmas.List.{take_all}
use Rattle.wr_base.specs.Uses.{text_of}
use Rattle.list_rules.specs.Open.{is_marked}
use Rattle.list_rules.proofs.TwiceLaws.{any_none, any_more, any_mapped}
use Rattle.list_rules.proofs.twice.any_use.Goals as goal

pub loop-ty-init : goal.loop-ty-init
loop-ty-init c = any_none (is_marked (contains_text c.args.texts.now)) c.args.uses.now

pub loop-ty-preserved : goal.loop-ty-preserved
loop-ty-preserved c =
    any_more (is_marked (contains_text c.args.texts.now)) c.args.uses.now c.loop-ty.ty-index c.ty-item.result c.loop-ty.any c.either-any.result (omega arith) c.ty-item.is c.loop-ty.invariant
    (c.either-any.ensures ∙ ap (λ (b : Bool). c.loop-ty.any || b) c.in_ok-one.ensures)

pub returns : goal.returns
returns c =
    any_mapped (contains_text c.args.texts.now) text_of c.args.uses.now c.loop-ty.any (c.loop-ty.invariant ∙ ap (list_any (is_marked (contains_text c.args.texts.now))) (take_all c.loop-ty.ty-index c.args.uses.now (omega arith)))

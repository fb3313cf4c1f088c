use Rattle.std.proofs.Common.{◌||◌, Bool, ap, ◌∙◌, arith}
use Rattle.std.specs.List.{list_any}
use Rattle.std.specs.BTreeSet.{contains_text}
use Rattle.std.proofs.lemmas.List.{take_all}
use Rattle.list_rules.proofs.TwiceLaws.{any_none, any_more}
use Rattle.list_rules.proofs.twice.any_name.Goals as goal

pub loop-name-init : goal.loop-name-init
loop-name-init c = any_none (contains_text c.args.texts.now) c.args.names.now

pub loop-name-preserved : goal.loop-name-preserved
loop-name-preserved c =
    any_more (contains_text c.args.texts.now) c.args.names.now c.loop-name.name-index c.name-item.result c.loop-name.any c.either-any.result (omega arith) c.name-item.is c.loop-name.invariant
    (c.either-any.ensures ∙ ap (λ (b : Bool). c.loop-name.any || b) c.name_marked-one.ensures)

pub returns : goal.returns
returns c = c.loop-name.invariant ∙ ap (list_any (contains_text c.args.texts.now)) (take_all c.loop-name.name-index c.args.names.now (omega arith))

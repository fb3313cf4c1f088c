use Rattle.std.proofs.Common.{Bool, ap, ◌∙◌}
use Rattle.std.specs.Prelude.{not}
use Rattle.winmd_lines.specs.Makers.{Maker}
use Rattle.winmd_uses.specs.Kinds.{made_if, makings_say, some_there}
use Rattle.winmd_uses.specs.Takes.{both}
use Rattle.winmd_uses.proofs.TakeLaws.{same_is, takes_last3}
use Rattle.winmd_uses.proofs.KindLaws.{some_is}
use Rattle.winmd_uses.proofs.used.Used.take_makings.Goals as goal

pub returns : goal.returns
returns c =
    let direct = made_if c.args.direct Maker.Activatable in
    let factories = made_if (not c.is_empty.result) Maker.Factory in
    let statics = made_if (not c.is_empty-2.result) Maker.Static in
    takes_last3 c.take_maker_if-3.result direct factories statics (makings_say c.args.direct c.args.factories.now c.args.statics.now) c.args.self.now c.take_maker_if.new.self c.take_maker_if-2.new.self c.take_maker_if-3.new.self
    (same_is (both direct (both factories statics)) (makings_say c.args.direct c.args.factories.now c.args.statics.now)
    (ap (λ (b : Bool). both direct (both (made_if b Maker.Factory) statics)) (some_is c.is_empty.result c.args.factories.now c.is_empty.ensures)
    ∙ ap (λ (b : Bool). both direct (both (made_if (some_there c.args.factories.now) Maker.Factory) (made_if b Maker.Static))) (some_is c.is_empty-2.result c.args.statics.now c.is_empty-2.ensures)))
    c.in_ok-take_maker_if.ensures c.in_ok-take_maker_if-2.ensures c.take_maker_if-3.ensures

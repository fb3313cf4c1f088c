use Rattle.std.proofs.Common.{◌≡◌, ◌||◌, List, map, ◌∙◌}
use Rattle.std.specs.List.{list_any}
use Rattle.std.specs.BTreeSet.{contains_text}
use Rattle.wr_base.specs.Uses.{text_of}
use Rattle.wr_base.specs.declared.declaration.Declaration.{Declaration}
use Rattle.wr_rules.specs.ListRules.{stands_twice}
use Rattle.list_rules.proofs.TwiceLaws.{if_ok_then, twice_is}
use Rattle.list_rules.proofs.twice.class_twice.Goals as goal

pub returns : goal.returns
returns c =
    if_ok_then c.stand_twice.result
    (λ b. b ≡ ((list_any (contains_text c.in_ok-made.made) (map text_of c.args.has.now) || list_any (contains_text c.in_ok-shown.shown) (map text_of c.args.has.now)) || list_any (contains_text c.in_ok-shown.shown) c.args.factories.now))
    (λ b. (types : List Declaration) → b ≡ stands_twice types c.args.has.now c.args.factories.now c.args.statics.now)
    (λ b e types. e ∙ twice_is types c.args.has.now c.args.factories.now c.args.statics.now (contains_text c.in_ok-made.made) (contains_text c.in_ok-shown.shown) c.in_ok-made.ensures c.in_ok-shown.ensures) c.stand_twice.ensures

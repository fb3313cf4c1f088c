use Rattle.std.proofs.Common.{ℕ, false, List, Option, IfOk, sym, subst}
use Rattle.id_clash.specs.Items.{Meets, One, is_had}
use Rattle.id_clash.proofs.ItemLaws.{meets_no}
use Rattle.id_clash.proofs.items.meet_optional.Goals as goal

pub returns-in-None : goal.returns-in-None
returns-in-None c = λ text. subst (λ (w : Option ℕ). Meets (One text w) (is_had c.args.reserved.now c.args.ids.now) (is_had c.args.reserved.now c.args.ids.now) false) (sym c.in-None.is) (meets_no text (is_had c.args.reserved.now c.args.ids.now))

pub returns-in-Some : goal.returns-in-Some
returns-in-Some c =
    subst (λ (w : Option ℕ). IfOk c.meet_id.result (λ told. (text : List ℕ) → Meets (One text w) (is_had c.args.reserved.now c.args.ids.now) (is_had c.args.reserved.now c.meet_id.new.ids) told)) (sym c.in-Some.is) c.meet_id.ensures

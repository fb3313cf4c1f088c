use Rattle.std.proofs.Common.{Option, ℕ, subst}
use Rattle.std.specs.HashSet.{contains_text}
use Rattle.id_clash.specs.Items.{Meets, One, is_had}
use Rattle.id_clash.proofs.ItemLaws.{adds_one}
use Rattle.id_clash.proofs.items.meet_text.Goals as goal

pub returns : goal.returns
returns c = record {
  told = subst (λ (id : Option ℕ). Meets (One c.args.text.now id) (is_had c.args.reserved.now c.args.met.now.ids) (is_had c.args.reserved.now c.meet_optional.new.ids) c.in_ok-told.told) c.new_id-id.ensures (c.in_ok-told.ensures c.args.text.now);
  texts = adds_one c.args.text.now (contains_text c.args.met.now.texts) (contains_text c.add_text.new.set) c.in_ok-add_text.ensures;
}

use Rattle.ranked.specs.First.{IsFirst, Below}
use Rattle.std.specs.HashSet.{contains_text}
use Rattle.wr_rules.specs.Sites.{sites_of}
use Rattle.id_clash.specs.Items.{is_had}
use Rattle.id_clash.specs.Pass.{Passed, TakenAt}
use Rattle.id_clash.proofs.pass.first_in_order.Given as goal

abbrev pub invariant-loop-i : goal.invariant-loop-i
invariant-loop-i l = record {
  passed : Passed l.types.types (sites_of l.types.types l.types.places) l.stands l.i (is_had l.reserved l.met.ids) (contains_text l.met.texts);
  first : IsFirst (Below l.i (TakenAt l.types.types (sites_of l.types.types l.types.places) l.stands)) l.first;
}

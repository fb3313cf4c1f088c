use Rattle.std.proofs.Common.{◌+◌, ◌∷◌, [], ℕ, take, subst, sym, ap, ◌∙◌, arith}
use Rattle.std.specs.Global.{Vec}
use Rattle.chains.specs.Groups.{graph_of}
use Rattle.numbered.specs.Numbers.{number_in}
use Rattle.member_clash.specs.Tables.{Knows}
use Rattle.numbered.proofs.Puts.{map_both}
use Rattle.member_clash.proofs.Sharing.{knows_kept, knows_turn}
use Rattle.member_clash.proofs.clash.sets_of.Goals as goal

pub loop-i-preserved : goal.loop-i-preserved
loop-i-preserved c = record {
  known = c.in_ok-set.ensures.known;
  sets = subst (Knows (number_in c.set_of.new.table.texts) (take (c.loop-i.i + 1) c.args.types.now)) (sym (ap graph_of c.in_ok-push.ensures.items ∙ map_both (λ (w : Vec ℕ). w.items) c.loop-i.sets.items (c.in_ok-set.set ∷ [])))
      (knows_turn (number_in c.set_of.new.table.texts) c.args.types.now c.loop-i.i c.at.result.now (graph_of c.loop-i.sets.items) c.in_ok-set.set.items (omega arith) c.at.ensures.value
      (knows_kept (number_in c.loop-i.table.texts) (number_in c.set_of.new.table.texts) (take c.loop-i.i c.args.types.now) (graph_of c.loop-i.sets.items) c.in_ok-set.ensures.kept c.loop-i.invariant.sets) c.in_ok-set.ensures.set);
}

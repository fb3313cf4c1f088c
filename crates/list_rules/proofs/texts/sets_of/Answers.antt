use Rattle.std.proofs.Common.{sym, ap, subst, arith}
use Rattle.chains.specs.Groups.{graph_of}
use Rattle.numbered.specs.Numbers.{number_in}
use Rattle.numbered.proofs.Puts.{kept_itself, kept_on}
use Rattle.list_rules.specs.Texts.{AreSets}
use Rattle.list_rules.proofs.TextLaws.{sets_none, sets_more}
use Rattle.list_rules.proofs.texts.sets_of.Goals as goal

pub loop-i-init : goal.loop-i-init
loop-i-init c = record { numbering = c.requires.numbering; kept = kept_itself (number_in c.args.numbers.now); sets_ = subst (AreSets (number_in c.args.numbers.now) c.args.types.now 0) (sym (ap graph_of c.new-sets.ensures.items)) (sets_none (number_in c.args.numbers.now) c.args.types.now) }

pub loop-i-preserved : goal.loop-i-preserved
loop-i-preserved c = record {
  numbering = c.in_ok-set.ensures.numbering;
  kept = kept_on (number_in c.args.numbers.now) (number_in c.loop-i.numbers) (number_in c.set_of.new.numbers) c.loop-i.invariant.kept c.in_ok-set.ensures.kept;
  sets_ = sets_more (number_in c.loop-i.numbers) (number_in c.set_of.new.numbers) c.args.types.now c.loop-i.i c.at.result.now c.loop-i.sets.items c.push.new.self.items c.in_ok-set.set (omega arith) c.at.ensures.value
      c.in_ok-set.ensures.kept c.loop-i.invariant.sets_ c.in_ok-push.ensures.items c.in_ok-set.ensures.set;
}

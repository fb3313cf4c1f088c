use Rattle.std.proofs.Common.{subst, arith}
use Rattle.std.proofs.lemmas.List.{take_all}
use Rattle.wr_rules.specs.NameRules.{reserved_ids}
use Rattle.id_table.specs.Taken.{owner}
use Rattle.id_rules.specs.Reserved.{Owns}
use Rattle.id_rules.proofs.ReservedLaws.{owns_none, owns_turn}
use Rattle.id_rules.proofs.reserved.reserved_owners.Goals as goal

pub loop-i-init : goal.loop-i-init
loop-i-init c = owns_none (owner c.no_owners-owners.result) 4294967295 c.no_owners-owners.ensures

pub loop-i-preserved : goal.loop-i-preserved
loop-i-preserved c =
    owns_turn (owner c.loop-i.owners) (owner c.put_reserved.new.owners) 4294967295 c.reserved_at.result c.loop-i.i reserved_ids c.reserved_at.ensures c.in_ok-put_reserved.ensures.0 c.loop-i.invariant

pub returns : goal.returns
returns c = subst (Owns (owner c.loop-i.owners) 4294967295) (take_all c.loop-i.i reserved_ids (omega arith)) c.loop-i.invariant

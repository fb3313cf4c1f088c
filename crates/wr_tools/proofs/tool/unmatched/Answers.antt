use Rattle.std.proofs.Common.{refl, arith}
use Rattle.wr_tools.specs.Midl.{unmatched}
use Rattle.wr_tools.proofs.EndLemmas.{refuses}
use Rattle.wr_tools.proofs.WordsOwed.{unmatched_owed, unmatched_settled}
use Rattle.wr_tools.proofs.tool.unmatched.Goals as goal

pub returns : goal.returns
returns g c =
    refuses _ _ _ 2 c.say.result unmatched unmatched_settled (omega arith) (omega arith) (λ e. refl) (λ e. refl)
    (unmatched_owed (g.S.Store.held c.args.store.now)) refl refl (record { store = omega arith; out = omega arith; err = c.say.ensures.later }) c.say.ensures.says

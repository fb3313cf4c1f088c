use Rattle.std.proofs.Common.{lit<}
use Rattle.wr_base.proofs.PartLaws.{behind_cut, behind_uncut, before_cut, before_uncut}
use Rattle.reference_rows.proofs.refs.around_last_dot.Goals as goal

pub returns-in-Some-clause-space : goal.returns-in-Some-clause-space
returns-in-Some-clause-space c = before_cut 46 c.args.text.now c.in-Some.space.now c.in-Some.name.now (lit< tt) c.in-Some.ensures.cases

pub returns-in-Some-clause-name : goal.returns-in-Some-clause-name
returns-in-Some-clause-name c = behind_cut 46 c.args.text.now c.in-Some.space.now c.in-Some.name.now (lit< tt) c.in-Some.ensures.cases

pub returns-in-None-clause-space : goal.returns-in-None-clause-space
returns-in-None-clause-space c = before_uncut 46 c.args.text.now (lit< tt) c.in-None.ensures.cases

pub returns-in-None-clause-name : goal.returns-in-None-clause-name
returns-in-None-clause-name c = behind_uncut 46 c.args.text.now (lit< tt) c.in-None.ensures.cases

use Rattle.std.proofs.Common.{lit<}
use Rattle.wr_base.proofs.PartLaws.{behind_cut, behind_uncut}
use Rattle.source_set.proofs.texts.last_part.Goals as goal

pub returns-in-Some : goal.returns-in-Some
returns-in-Some c = behind_cut 47 c.args.text.now c.in-Some.field-0-0.now c.in-Some.part.now (lit< tt) c.in-Some.ensures.cases

pub returns-in-None : goal.returns-in-None
returns-in-None c = behind_uncut 47 c.args.text.now (lit< tt) c.in-None.ensures.cases

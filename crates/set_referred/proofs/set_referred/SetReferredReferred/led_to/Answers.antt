use Rattle.wr_base.specs.Trees.{tree_of}
use Rattle.winmd_names.specs.Seen.{seen}
use Rattle.set_referred.proofs.TableLaws.{led_fits}
use Rattle.set_referred.proofs.set_referred.SetReferredReferred.led_to.Goals as goal

pub returns-clause-fits : goal.returns-clause-fits
returns-clause-fits c = led_fits (seen c.args.self.now.names) (tree_of c.args.ty.now) c.in_ok-table.table c.in_ok-table.row c.in_ok-table.ensures

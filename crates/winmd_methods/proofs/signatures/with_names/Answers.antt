use Rattle.winmd_cells.specs.Seen.{tables_in}
use Rattle.winmd_methods.proofs.ParamLaws.{named}
use Rattle.winmd_methods.proofs.signatures.with_names.Goals as goal
use Rattle.wr_base.specs.Trees.{signature_tree}

pub returns : goal.returns
returns c = rw (named (tables_in c.args.source.now.image) c.args.n (signature_tree c.args.signature)) c.named_signature.ensures

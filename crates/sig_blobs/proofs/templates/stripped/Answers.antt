use Rattle.sig_blobs.proofs.TemplateLaws.{stripped_is}
use Rattle.sig_blobs.proofs.templates.stripped.Goals as goal

pub returns : goal.returns
returns c = stripped_is c.args.end.now c.args.text.now c.strip_suffix.result c.strip_suffix.ensures.cases

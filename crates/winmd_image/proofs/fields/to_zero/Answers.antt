use Rattle.std.proofs.Common.{◌∙◌, sym}
use Rattle.winmd_image.proofs.NameLemmas.{name_ends, name_whole}
use Rattle.winmd_image.proofs.fields.to_zero.Goals as goal

pub returns-in-Some-clause-value : goal.returns-in-Some-clause-value
returns-in-Some-clause-value c = sym (name_ends c.args.bytes.now c.in-Some.end (sym c.first_zero.ensures ∙ c.in-Some.is))

pub returns-in-None-clause-value : goal.returns-in-None-clause-value
returns-in-None-clause-value c = sym (name_whole c.args.bytes.now (sym c.first_zero.ensures ∙ c.in-None.is))

use Rattle.std.proofs.Common.{not, ap, ◌∙◌}
use Rattle.wr_rules.specs.Limits.{is_long_name}
use Rattle.site_limits.proofs.Lengths.{short_or_long}
use Rattle.site_limits.proofs.names.is_long.Goals as goal

pub returns : goal.returns
returns c = ap not c.tests_short_name.ensures ∙ short_or_long c.as_bytes.result.now ∙ ap is_long_name (c.as_bytes.ensures.value ∙ c.as_str.ensures.value)

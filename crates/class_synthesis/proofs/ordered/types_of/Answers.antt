use Rattle.std.proofs.Common.{subst}
use Rattle.wr_base.specs.Refusals.{IsRefusalOf}
use Rattle.class_synthesis.proofs.OrderedLaws.{never_twice}
use Rattle.class_synthesis.proofs.ordered.types_of.Goals as goal

pub unreachable-requires : goal.unreachable-requires
unreachable-requires c = never_twice c.args.declarations.items _ c.requires (subst (IsRefusalOf c.args.declarations.items) c.in-Err-Refused.field-0-is c.in-Err-Refused.ensures.refused)

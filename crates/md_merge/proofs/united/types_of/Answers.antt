use Rattle.std.proofs.Common.{◌∙◌, subst}
use Rattle.wr_base.specs.Refusals.{IsRefusalOf}
use Rattle.md_merge.proofs.UnionLaws.{all_normal, never_twice}
use Rattle.md_merge.proofs.united.types_of.Goals as goal

pub returns-in-Ok : goal.returns-in-Ok
returns-in-Ok c = c.in-Ok.ensures.exact c.requires.order ∙ all_normal c.args.declarations.items c.requires.normal

pub unreachable-requires : goal.unreachable-requires
unreachable-requires c = never_twice c.args.declarations.items _ c.requires.order (subst (IsRefusalOf c.args.declarations.items) c.in-Err-Refused.field-0-is c.in-Err-Refused.ensures.refused)

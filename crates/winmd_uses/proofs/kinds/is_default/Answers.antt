use Rattle.std.proofs.Common.{sym, ap, ◌∙◌}
use Rattle.std.specs.Option.{option_map}
use Rattle.std.specs.Prelude.{Option}
use Rattle.wr_base.specs.Trees.{tree_of}
use Rattle.wr_base.specs.declared.type_use.TypeUse.{TypeUse}
use Rattle.winmd_sets.specs.Declared.{is_default}
use Rattle.winmd_uses.proofs.DefaultLaws.{is_same}
use Rattle.winmd_uses.proofs.kinds.is_default.Goals as goal

pub returns-in-Some : goal.returns-in-Some
returns-in-Some c = is_same c.is_same.result c.in-Some.default c.args.ty.now c.is_same.ensures ∙ sym (ap (λ (o : Option TypeUse). is_default (option_map tree_of o) (tree_of c.args.ty.now)) c.in-Some.is)

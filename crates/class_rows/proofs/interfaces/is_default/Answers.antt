use Rattle.std.proofs.Common.{◌∙◌, Option, option_map, sym, ap}
use Rattle.winmd_sets.specs.Declared as declared
use Rattle.wr_base.specs.Trees.{tree_of}
use Rattle.wr_base.specs.declared.type_use.TypeUse.{TypeUse}
use Rattle.class_rows.proofs.DefaultLaws.{is_same}
use Rattle.class_rows.proofs.interfaces.is_default.Goals as goal

pub returns-in-Some : goal.returns-in-Some
returns-in-Some c =
    is_same c.same.result _ c.args.ty.now c.same.ensures
    ∙ sym (ap (λ (o : Option TypeUse). declared.is_default (option_map tree_of o) (tree_of c.args.ty.now)) c.in-Some.is)

use Rattle.std.proofs.Common.{◌||◌, ◌∙◌, ap, sym, take, arith}
use Rattle.std.specs.List.{list_any}
use Rattle.std.proofs.lemmas.List.{take_all}
use Rattle.std.proofs.lemmas.List.Folds.{list_any_more}
use Rattle.wr_base.specs.declared.type_use.TypeUse.{TypeUse}
use Rattle.wr_base.specs.Trees.{tree_of}
use Rattle.wr_rules.specs.UseRules.{is_object_like}
use Rattle.use_rules.proofs.Counts.{any_argument}
use Rattle.use_rules.proofs.questions.any_object_like.Goals as goal

pub loop-ty-preserved : goal.loop-ty-preserved
loop-ty-preserved c =
    let test = λ (u : TypeUse). is_object_like c.args.types.now (tree_of u) in
    c.either-found.ensures ∙ ap (λ b. b || c.is_object_like.result) c.loop-ty.invariant
    ∙ ap (λ b. list_any test (take c.loop-ty.ty-index c.args.uses.now) || b) (c.is_object_like.ensures ∙ ap (is_object_like c.args.types.now) c.shape_of.ensures ∙ ap test c.ty-item.is)
    ∙ sym (list_any_more test c.args.uses.now c.loop-ty.ty-index c.ty-item.result c.loop-ty-test.true)

pub returns : goal.returns
returns c =
    c.loop-ty.invariant
    ∙ ap (list_any (λ (u : TypeUse). is_object_like c.args.types.now (tree_of u))) (take_all c.loop-ty.ty-index c.args.uses.now (omega arith))
    ∙ any_argument (is_object_like c.args.types.now) c.args.uses.now

use Rattle.std.proofs.Common.{◌≡◌, take}
use Rattle.std.specs.List.{list_any}
use Rattle.wr_base.specs.Trees.{tree_of}
use Rattle.wr_rules.specs.UseRules.{is_object_like}
use Rattle.use_rules.proofs.questions.any_object_like.Given as goal

abbrev pub invariant-loop-ty : goal.invariant-loop-ty
invariant-loop-ty l = l.found ≡ list_any (λ u. is_object_like l.types (tree_of u)) (take l.ty-index l.uses)

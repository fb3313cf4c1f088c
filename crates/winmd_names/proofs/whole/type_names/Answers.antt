use Rattle.std.proofs.Common.{ℕ, List, ◌++◌, ◌∷◌, [], ap, ◌∙◌, arith}
use Rattle.winmd_names.proofs.DeclaredLaws.{names_all, names_turn}
use Rattle.winmd_names.proofs.whole.type_names.Goals as goal

pub loop-i-preserved : goal.loop-i-preserved
loop-i-preserved c =
    names_turn c.args.types.now c.loop-i.i c.at.result.now c.name.result.now c.loop-i.names.items c.push.new.self.items c.at.ensures.value c.name.ensures c.loop-i.invariant
    (c.in_ok-push.ensures.items ∙ ap (λ (n : List ℕ). c.loop-i.names.items ++ n ∷ []) c.in_ok-clone.ensures.cases)

pub returns : goal.returns
returns c = names_all c.args.types.now c.loop-i.i c.loop-i.names.items (omega (arith, c.len-i-end.ensures.len)) c.loop-i.invariant

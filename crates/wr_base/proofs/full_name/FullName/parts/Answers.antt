use Rattle.std.proofs.Common.{◌++◌, ◌∷◌, ◌∙◌, List, ℕ, IsTrue, ap, sym, subst}
use Rattle.wr_base.specs.Parts.{before_last, behind_last}
use Rattle.wr_base.specs.Paths.{is_path}
use Rattle.wr_base.proofs.PartLaws.{joined_parts, path_dot}
use Rattle.wr_base.proofs.full_name.FullName.parts.Goals as goal

pub returns-clause-space : goal.returns-clause-space
returns-clause-space c = c.around_last_dot.ensures.space ∙ ap (before_last 46) (c.as_str.ensures.value ∙ c.self.view_is)

pub returns-clause-name : goal.returns-clause-name
returns-clause-name c = c.around_last_dot.ensures.name ∙ ap (behind_last 46) (c.as_str.ensures.value ∙ c.self.view_is)

pub returns-clause-joined : goal.returns-clause-joined
returns-clause-joined c =
    let text : List ℕ = c.as_str.result.now in
    let path : IsTrue (is_path text) = subst (λ t. IsTrue (is_path t)) (sym c.as_str.ensures.value) c.self.invariant in
    ap (λ t. t ++ 46 ∷ c.around_last_dot.result.1.now) c.around_last_dot.ensures.space
    ∙ ap (λ t. before_last 46 text ++ 46 ∷ t) c.around_last_dot.ensures.name
    ∙ joined_parts 46 text (path_dot text path) ∙ c.as_str.ensures.value ∙ c.self.view_is

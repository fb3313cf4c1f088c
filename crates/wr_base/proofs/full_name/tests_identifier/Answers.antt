use Rattle.std.proofs.Common.{rules, sym, ap, ◌∙◌, ◌&&◌}
use Rattle.std.specs.List.{list_all}
use Rattle.std.proofs.lemmas.Iterator.{YieldsList-from_slice}
use Rattle.std.proofs.lemmas.Iterator.Search.{all_from_yields_List}
use Rattle.wr_base.specs.Paths.{is_rest}
use Rattle.wr_base.proofs.full_name.tests_identifier.Goals as goal

pub returns-then-tests_start : goal.returns-then-tests_start
returns-then-tests_start c =
    rw c.in-Some.ensures.cases.0
    (all_from_yields_List is_rest _ _ _ c.all.ensures.ran (YieldsList-from_slice c.in-Some.rest.now cc) (λ x b q k. search rules)
    ∙ ap (λ b. b && list_all is_rest c.in-Some.rest.now) (sym c.if-tests_start.true ∙ c.tests_start.ensures))

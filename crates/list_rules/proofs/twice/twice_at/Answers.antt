use Rattle.std.proofs.Common.{◌≡◌, ℕ, List, sym, ap, ◌∙◌}
use Rattle.wr_base.specs.declared.type_use.TypeUse.{TypeUse}
use Rattle.wr_base.specs.declared.declaration.Declaration.{Declaration}
use Rattle.wr_rules.specs.ListRules.{stands_twice}
use Rattle.list_rules.specs.Open.{twice_at}
use Rattle.list_rules.proofs.TwiceLaws.{if_ok_then}
use Rattle.list_rules.proofs.twice.twice_at.Goals as goal

pub returns-in-Class : goal.returns-in-Class
returns-in-Class c =
    if_ok_then c.class_twice.result (λ b. (types : List Declaration) → b ≡ stands_twice types c.as_slice.result.now c.as_slice-in-Class.result.now c.as_slice-in-Class-2.result.now)
    (λ b. (types : List Declaration) → b ≡ twice_at types c.args.declaration.now)
    (λ b e types. e types ∙ ap (λ (us : List TypeUse). stands_twice types us c.as_slice-in-Class.result.now c.as_slice-in-Class-2.result.now) c.as_slice.ensures
    ∙ ap (λ (ns : List (List ℕ)). stands_twice types c.in-Class.has ns c.as_slice-in-Class-2.result.now) c.as_slice-in-Class.ensures
    ∙ ap (λ (ns : List (List ℕ)). stands_twice types c.in-Class.has c.in-Class.factories ns) c.as_slice-in-Class-2.ensures
    ∙ ap (twice_at types) (sym c.in-Class.is)) c.class_twice.ensures

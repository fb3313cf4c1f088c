use Rattle.std.proofs.Common.{◌≡◌, ◌∙◌, ap, subst, [], ◌∷◌, ◌++◌, IfOk, string_bytes, lit<}
use Rattle.wr_base.proofs.PartLaws.{up_cut, up_uncut}
use Rattle.source_set.proofs.texts.behind_folder.Goals as goal

pub returns-in_ok-push_str-in-Some : goal.returns-in_ok-push_str-in-Some
returns-in_ok-push_str-in-Some c =
    c.in_ok-push_str-in-Some.ensures.bytes
    ∙ ap (λ t. t ++ c.args.text.now)
    (c.in_ok-push-in-Some.ensures.bytes ∙ ap (λ t. string_bytes c.in_ok-name-in-Some.name ++ t) (c.in_ok-push-in-Some.ensures.ascii (lit< tt))
    ∙ ap (λ t. t ++ 47 ∷ []) c.in_ok-name-in-Some.ensures.ok
    ∙ up_cut 47 c.args.importer.now c.in-Some.folder.now c.in-Some.field-0-1.now (lit< tt) c.in-Some.ensures.cases)

pub returns-in-None : goal.returns-in-None
returns-in-None c =
    subst (λ n. IfOk c.from_str-in-None.result (λ name. string_bytes name ≡ n))
    (ap (λ t. t ++ c.args.text.now) (up_uncut 47 c.args.importer.now (lit< tt) c.in-None.ensures.cases)) c.from_str-in-None.ensures.ok

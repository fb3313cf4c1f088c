use Rattle.std.proofs.Common.{◌≡◌, ℕ, List, OnOk, subst, ◌∙◌}
use Rattle.sig_blobs.specs.Numbers.{number_in}
use Rattle.sig_blobs.proofs.WriteLaws.{template_put}
use Rattle.sig_blobs.proofs.put.put_template.Goals as goal

pub returns-clause-ok : goal.returns-clause-ok
returns-clause-ok c =
    let all = template_put (number_in c.args.tokens.now) c.args.name.now c.as_str.result.now c.args.count c.args.into.now.items c.push.new.self.items c.put_token.new.into.items (c.as_str.ensures.value ∙ c.in_ok-full.ensures) c.in_ok-push.ensures.items c.in_ok-put_token.ensures.ok in
    subst (λ (x : List ℕ). OnOk c.put_number.result (c.put_number.new.into.items ≡ x)) all c.put_number.ensures.ok

use Rattle.std.proofs.Common.{◌∷◌, [], List, ℕ, ap, ◌∙◌}
use Rattle.sig_blobs.specs.Templates.{template}
use Rattle.winmd_uses.specs.Kinds.{nothing}
use Rattle.winmd_uses.specs.Takes.{names_alone}
use Rattle.winmd_uses.proofs.TakeLaws.{same_is, takes_last}
use Rattle.winmd_uses.proofs.used.Used.take_new_template.Goals as goal

pub returns : goal.returns
returns c =
    let full : List ℕ = template c.args.name.now c.args.count in
    takes_last c.form.result (names_alone (c.as_str.result.now ∷ [])) nothing (names_alone (full ∷ [])) c.args.self.now c.take_name.new.self c.form.new.self
    (same_is (names_alone (c.as_str.result.now ∷ [])) (names_alone (full ∷ [])) (ap (λ (n : List ℕ). names_alone (n ∷ [])) (c.as_str.ensures.value ∙ c.in_ok-full.ensures)))
    c.in_ok-take_name.ensures c.form.ensures

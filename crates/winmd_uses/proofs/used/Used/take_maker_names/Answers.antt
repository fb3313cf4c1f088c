use Rattle.std.proofs.Common.{◌≡◌, ℕ, List, Bool, ◌∷◌, [], codes, sym, ap, ◌∙◌}
use Rattle.std.specs.Prelude.{if◌then◌else◌}
use Rattle.winmd_lines.specs.Makers.{maker_signature, maker_type}
use Rattle.winmd_lines.specs.UsedNames.{names_in_signature}
use Rattle.winmd_uses.specs.Makers.{maker_of}
use Rattle.winmd_uses.specs.Takes.{both, names_alone}
use Rattle.winmd_uses.proofs.TakeLaws.{same_is, takes_last}
use Rattle.winmd_uses.proofs.used.Used.take_maker_names.Goals as goal

pub returns-then-takes_type : goal.returns-then-takes_type
returns-then-takes_type c =
    let m = maker_of c.args.maker in
    let names : names_in_signature (maker_signature m) ≡ codes "System.Type" ∷ [] = c.takes_type.ensures ∙ ap (λ (b : Bool). if b then codes "System.Type" ∷ [] else []) c.if-takes_type.true in
    takes_last c.take_name-then-takes_type.result (names_alone (c.type_name.result.now ∷ [])) (names_alone (codes "System.Type" ∷ [])) (names_alone (maker_type m ∷ names_in_signature (maker_signature m)))
    c.args.self.now c.take_name.new.self c.take_name-then-takes_type.new.self
    (same_is (both (names_alone (c.type_name.result.now ∷ [])) (names_alone (codes "System.Type" ∷ []))) (names_alone (maker_type m ∷ names_in_signature (maker_signature m)))
    (ap (λ (n : List ℕ). names_alone (n ∷ codes "System.Type" ∷ [])) c.type_name.ensures ∙ ap (λ (ns : List (List ℕ)). names_alone (maker_type m ∷ ns)) (sym names)))
    c.in_ok-take_name.ensures c.take_name-then-takes_type.ensures

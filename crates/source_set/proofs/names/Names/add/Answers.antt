use Rattle.std.proofs.Common.{◌≡◌, ◌<◌, ◌≤◌, ◌∙◌, ap, arith, sym, length, string_bytes}
use Rattle.std.proofs.lemmas.Bool.{eqb-false, eqb-true}
use Rattle.source_set.specs.Found.{with_name}
use Rattle.source_set.proofs.NameLemmas.{full, has_room, once-le}
use Rattle.source_set.proofs.names.Names.add.Goals as goal

pub returns-then-is_full : goal.returns-then-is_full
returns-then-is_full c = full 257 c.args.self.now (string_bytes c.args.name) (eqb-true _ 257 (sym c.if-is_full.ensures.full))

pub returns : goal.returns
returns c =
    let not_full : length c.args.self.now ≡ 257 → ⊥ = eqb-false (length c.args.self.now) 257 (sym c.if-is_full.ensures.full) in
    let kept : length c.self.inside.names ≤ 257 = c.self.invariant in
    let view : c.args.self.now ≡ c.self.inside.names = sym c.self.view_is in
    let few : length c.args.self.now < 257 = omega (arith, ap length view) in
    c.in_ok-add.ensures.ok ∙ ap (λ t. with_name t (string_bytes c.args.name)) (sym view) ∙ has_room 257 c.args.self.now (string_bytes c.args.name) few

pub invariant_of-self-2 : goal.invariant_of-self-2
invariant_of-self-2 c =
    let not_full : length c.args.self.now ≡ 257 → ⊥ = eqb-false (length c.args.self.now) 257 (sym c.if-is_full.ensures.full) in
    let kept : length c.self.inside.names ≤ 257 = c.self.invariant in
    let view : c.args.self.now ≡ c.self.inside.names = sym c.self.view_is in
    omega (arith, ap length view, ap length c.in_ok-add.ensures.ok, once-le c.self.inside.names (string_bytes c.args.name))

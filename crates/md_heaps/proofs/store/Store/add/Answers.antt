use Rattle.std.proofs.Common.{◌≡◌, ◌++◌, ap, ◌∙◌, arith}
use Rattle.std.proofs.lemmas.Grind.{common_steps}
use Rattle.std.specs.FinMap.{insert}
use Rattle.md_heaps.proofs.store.Store.add.Goals as goal

pub returns-clause-added : goal.returns-clause-added
returns-clause-added c =
    let old = c.self.inside in
    let entries : c.add.new.self ≡ insert old.index c.args.content.now c.args.index = c.in_ok-add.ensures.added ∙ ap (λ content. insert old.index content c.args.index) c.in_ok-from_slice.ensures.items in
    let bytes : c.extend_from_slice-3.new.self.items ≡ old.bytes.items ++ (c.args.before.now ++ c.args.content.now ++ c.args.behind.now) = grind (arith, common_steps) in
    rw (← c.self.view_is) (λ i. record { bytes = bytes i; entries = entries i })

use Rattle.std.proofs.Common.{◌+◌, ap, ◌∙◌, sym, arith}
use Rattle.winmd_sets.specs.Attributes.{owner_of}
use Rattle.winmd_cells.specs.Seen.{tables_in}
use Rattle.winmd_index.proofs.OwnerLaws.{owner_after, owner_few}
use Rattle.winmd_index.proofs.owners.next_owner.Goals as goal

pub overflow_add-result : goal.overflow_add-result
overflow_add-result c =
    let next = owner_after c.args.image.now c.args.n in
    let few = owner_few c.args.image.now (c.args.n + 1) in
    let types = c.count-types.ensures in
    let owner = c.requires.owner in
    let more = c.starting-more.ensures in
    let fits = c.count-types.type_inv in
    omega (arith, next, few, types, owner, more, fits)

pub returns : goal.returns
returns c =
    ap (λ k. k + c.starting-more.result) c.requires.owner ∙ ap (λ k. owner_of (tables_in c.args.image.now) c.args.n + k) c.starting-more.ensures
    ∙ sym (owner_after c.args.image.now c.args.n)

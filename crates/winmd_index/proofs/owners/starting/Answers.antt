use Rattle.std.proofs.Common.{◌≡◌, length, ap, ◌∙◌, arith}
use Rattle.winmd_index.specs.Names.{starting}
use Rattle.winmd_index.proofs.OwnerLaws.{list_length, starting_few}
use Rattle.winmd_index.proofs.owners.starting.Goals as goal

pub overflow_cast-result : goal.overflow_cast-result
overflow_cast-result c =
    let long : length c.owned.result.now ≡ length (starting c.args.image.now c.args.n) = ap length c.owned.ensures ∙ list_length c.args.image.now c.args.lists.now c.args.n c.requires.index c.requires.within in
    let few = starting_few c.args.image.now c.args.n in
    let types = c.count-types.ensures in
    let fits = c.count-types.type_inv in
    omega (arith, long, few, types, fits)

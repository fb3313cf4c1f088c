use Rattle.std.proofs.Common.{ℕ, length, ap, arith}
use Rattle.std.specs.Global.{Vec}
use Rattle.std.proofs.lemmas.List.{length-map}
use Rattle.chains.specs.Groups.{graph_of}
use Rattle.numbered.specs.Numbers.{number_in}
use Rattle.member_clash.proofs.Sharing.{knows_length}
use Rattle.member_clash.proofs.clash.clashes.Goals as goal

pub tell_each-requires-clause-short : goal.tell_each-requires-clause-short
tell_each-requires-clause-short c =
    let k = knows_length (number_in c.sets_of.new.table.texts) c.args.types.now (graph_of c.in_ok-sets.sets.items) c.in_ok-sets.ensures.sets in
    let m = length-map c.in_ok-sets.sets.items (λ (v : Vec ℕ). v.items) in
    let s = c.len-count.ensures.order.short in
    omega (arith, k, m, s, ap length c.as_slice.ensures.value)

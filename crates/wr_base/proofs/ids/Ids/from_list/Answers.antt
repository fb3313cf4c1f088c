use Rattle.std.proofs.Common.{List, subst, sym}
use Rattle.wr_base.specs.Ids.{id_text, IsListing}
use Rattle.wr_base.specs.declared.ids.UseId.{UseId}
use Rattle.wr_base.proofs.SetLemmas.{rises-set_by}
use Rattle.wr_base.proofs.ids.Ids.from_list.Goals as goal

pub invariant_of-result : goal.invariant_of-result
invariant_of-result c =
    let P : List UseId → Type 0 = λ xs. IsListing xs in
    subst P (sym c.in_ok-in_order.ensures) (rises-set_by id_text c.from_vec.result)

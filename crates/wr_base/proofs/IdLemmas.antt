-- What is found in a listing of ids.
use Rattle.std.proofs.Common.{◌≡◌, ℕ, ◌<◌, List, length, get_or, Contains, ap, subst}
use Rattle.std.specs.declared.cmp.Ordering.TheVariants.{Equal}
use Rattle.std.specs.Ordering.{nat_cmp}
use Rattle.std.specs.Cmp.Lexicographic.{slice_cmp}
use Rattle.std.specs.List.{HoldsAt}
use Rattle.std.proofs.lemmas.List.Elements.{Contains-get_or}
use Rattle.wr_base.specs.declared.ids.UseId.{UseId}
use Rattle.wr_base.specs.Ids.{id_text}
use Rattle.wr_base.proofs.TypesLemmas.{same_text}

pub listed_at : (xs : List UseId) (i : ℕ) (e : UseId) (x : List ℕ) → i < length xs → HoldsAt (λ y. slice_cmp nat_cmp (id_text y) x ≡ Equal) xs i
    → Contains xs (record { text = x; id = (get_or xs i e).id })
listed_at xs i e x l here =
    let with_text : List ℕ → UseId = λ t. record { text = t; id = (get_or xs i e).id } in
    let P : UseId → Type 0 = λ u. Contains xs u in
    subst P (ap with_text (same_text _ _ (here e))) (Contains-get_or xs i e l)

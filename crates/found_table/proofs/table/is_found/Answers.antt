use Rattle.std.proofs.Common.{◌≡◌, List, ℕ, refl, subst, ◌↔◌, IsTrue}
use Rattle.std.specs.Str.{bytes_eq}
use Rattle.wr_base.specs.Lower.{lower}
use Rattle.found_table.specs.Table.{is_found, name_of, table}
use Rattle.found_table.specs.Views.{found_view}
use Rattle.found_table.proofs.RowLemmas.{any_later, apart}
use Rattle.found_table.proofs.table.is_found.Goals as goal

pub loop-place-init : goal.loop-place-init
unfolding is_found
loop-place-init c = refl

pub loop-place-preserved : goal.loop-place-preserved
loop-place-preserved c =
    let name : List ℕ = c.args.name.now in
    let told = c.eq_ignore_ascii_case.result in
    let test : IsTrue told ↔ (lower name ≡ lower (name_of (found_view c.row_at.result))) =
    subst (λ (x : List ℕ). IsTrue told ↔ (lower name ≡ lower x)) c.name.ensures c.eq_ignore_ascii_case.ensures.test in
    any_later (λ row. bytes_eq (lower name) (lower (name_of row))) table c.loop-place.place (found_view c.row_at.result) (is_found name) c.row_at.ensures c.loop-place.invariant
    (apart (lower name) (lower (name_of (found_view c.row_at.result))) told test c.if-eq_ignore_ascii_case.false)
